-- "Prove too that cutting a run is harmless: n steps then m, nothing between, give the same state, RAM, journal and summed counts as n+m, for n+m up to
-- 65,535 and no breakpoints." About the call `run` itself: accepted or refused. `proofs/Cutting.antt` proves it.
use Rattle.std.specs.Prelude.{ℕ, ◌+◌, ◌≤◌, ◌≡◌, List, length}
use Rattle.bus.specs.Good.{Within, GoodRegs, GoodBoard}
use Rattle.bus.specs.declared.state.Cpu.{Cpu}
use Rattle.history.specs.Trace.{Answer, answers, run}
use Rattle.history.specs.Ring.{Ring}
use Rattle.calls.specs.Calls.{W, answer_of, replied, Keeps}
use Rattle.calls.specs.declared.state.Machine.{Machine}
use Rattle.calls.specs.declared.state.Reply.{Reply}

-- a machine as the code has it by value, and RAM as it is lent: sixteen registers and six CSRs of 16 bits, devices of theirs, bytes
pub record Typed (c : Cpu) (ram : List ℕ) : Type 0 where
  pub regs : GoodRegs c.regs
  pub long : length c.csrs ≡ 6
  pub words : Within 16 c.csrs
  pub board : GoodBoard c.board
  pub bytes : Within 8 ram

-- two answers as one: the second's number, cause, state, RAM and journal, and the counts summed
abbrev pub summed : Answer Cpu Ring → Answer Cpu Ring → Answer Cpu Ring
summed a b = answers b.number (a.steps + b.steps) (a.bus + b.bus) b.cause b.world

-- of the rules: the call with n, and then with m on what it left, answer together what the call with n + m answers
abbrev pub Cuts : ℕ → ℕ → W → Type 0
Cuts n m w = answer_of (run (n + m)) w ≡ summed (answer_of (run n) w) (answer_of (run m) (answer_of (run n) w).world)

-- of the code's calls, each of which keeps its promise: the whole run leaves the machine, RAM and journal that the second part leaves, and tells its
-- number and cause, and the counts summed
pub record Harmless (a : Reply) (ram₁ ws₁ : List ℕ) (b : Reply) (ram₂ ws₂ : List ℕ) (c : Reply) (ram₃ ws₃ : List ℕ) : Type 0 where
  pub told : replied c ram₃ ws₃ ≡ summed (replied a ram₁ ws₁) (replied b ram₂ ws₂)
  pub machine : c.machine ≡ b.machine
  pub ram : ram₃ ≡ ram₂
  pub words : ws₃ ≡ ws₂

abbrev pub CutsCalls : ℕ → ℕ → Machine → List ℕ → List ℕ → Type 0
CutsCalls n m k ram ws =
    (a : Reply) (ram₁ ws₁ : List ℕ) (b : Reply) (ram₂ ws₂ : List ℕ) (c : Reply) (ram₃ ws₃ : List ℕ)
    → n + m ≤ 65535 → Keeps (run n) k ram ws a ram₁ ws₁ → Keeps (run m) a.machine ram₁ ws₁ b ram₂ ws₂ → Keeps (run (n + m)) k ram ws c ram₃ ws₃
    → Harmless a ram₁ ws₁ b ram₂ ws₂ c ram₃ ws₃
