-- How what the code leaves and returns stands for a step by the rules.
use Rattle.std.specs.Prelude.{List, ℕ}
use Rattle.word.specs.Memory.{old_bytes}
use Rattle.bus.specs.State.{cpu}
use Rattle.bus.specs.declared.state.Cpu.{Cpu}
use Rattle.bus.specs.declared.state.Board.{Board}
use Rattle.history.specs.Trace.{Effect}
use Rattle.cpu.specs.Step.{effect}
use Rattle.cpu.specs.declared.step.Done.{Done}

-- a step with the bytes that it wrote over
pub record Told : Type 0 where
  pub step : Effect Cpu
  pub old : ℕ

-- by the rules, from the memory before
abbrev pub told_of : List ℕ → Effect Cpu → Told
told_of m x = record { step = x; old = old_bytes m x.count x.first }

-- by the code: lent registers, CSRs and memory as they are left, and the rest as it is returned
abbrev pub told_as : List ℕ → List ℕ → Done → List ℕ → Told
told_as g k q m = record { step = effect (cpu g k q.board) m q.count q.first q.bus; old = q.old }

-- what the code returns of a step that wrote nothing through memory
abbrev pub done_quiet : Board → ℕ → Done
done_quiet b n = record { board = b; count = 0; first = 0; old = 0; bus = n }
