-- How the code's answers stand for the rules' own.
use Rattle.std.specs.Prelude.{ℕ, ◌≡◌, List, Result, Ok, Err}
use Rattle.history.specs.Trace.{Call}
use Rattle.calls.specs.Inputs.{Input}
use Rattle.calls.specs.Calls.{plain_of, world_of, number_of, replied}
use Rattle.calls.specs.declared.state.Machine.{Machine as MachineT}
use Rattle.calls.specs.declared.state.Refusal.{Refusal}
use Rattle.calls.specs.declared.state.Answer.TheVariants.{Refused}
use Rattle.calls.specs.declared.state.Reply.{Reply}

-- a refusal as the code has it
abbrev pub refuse : MachineT → Refusal → Reply
refuse m why = record { answer = Refused why; machine = m }

-- what was checked, as a number: that of the refusal, or 0
abbrev pub checked : {T : Type 0} → Result T Refusal → ℕ
checked (Ok t) = 0
checked (Err why) = number_of why

-- what a part of a call promises that makes no checks: as `Keeps`, but for the checks
abbrev pub Acts : Call Input → MachineT → List ℕ → List ℕ → Reply → List ℕ → List ℕ → Type 0
Acts c m ram ws r ram' ws' = plain_of c (world_of m ram ws) ≡ replied r ram' ws'
