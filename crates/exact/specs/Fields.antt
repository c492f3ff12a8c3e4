-- The numbers of an answer that the C boundary has a field of fixed width for: its own number, steps and bus bytes, next slot and records held.
-- `proofs/Counts.antt`, `proofs/Places.antt` and `proofs/Whole.antt` prove that each fits its field.
use Rattle.std.specs.Prelude.{◌*◌, ◌≤◌, ◌≡◌}
use Rattle.word.specs.Word.{low_at}
use Rattle.bus.specs.declared.state.Cpu.{Cpu}
use Rattle.history.specs.Trace.{Answer, Call, give, run, back}
use Rattle.history.specs.Ring.{Ring}
use Rattle.calls.specs.Inputs.{Input}
use Rattle.watched.specs.Answer.{Watched}

-- a run's budget is a word
abbrev pub Budgeted : Call Input → Type 0
Budgeted (give i) = Unit {0}
Budgeted (run n) = n ≤ 65535
Budgeted back = Unit {0}

-- a refusal of the table, at most 65,535 steps, and at most four bus bytes for each of them
pub record Counted (a : Answer Cpu Ring) : Type 0 where
  pub number : a.number ≤ 9
  pub steps : a.steps ≤ 65535
  pub each : a.bus ≤ 4 * a.steps
  pub bus : a.bus ≤ 4 * 65535

-- at most as many as the most slots that a journal has
pub record Placed (j : Ring) : Type 0 where
  pub next : j.next ≤ 1024
  pub held : j.held ≤ 1024

-- "bits 0–15 the refusal's number; bits 16–31 the steps of a run; bits 32–55 bus bytes (step and run)": these bits are the whole numbers
pub record CountsWhole (a : Answer Cpu Ring) : Type 0 where
  pub number : low_at 16 a.number ≡ a.number
  pub steps : low_at 16 a.steps ≡ a.steps
  pub bus : low_at 24 a.bus ≡ a.bus

-- "25 next slot; 26 records held": words of 16 bits
pub record PlacesWhole (j : Ring) : Type 0 where
  pub next : low_at 16 j.next ≡ j.next
  pub held : low_at 16 j.held ≡ j.held

-- of a watched run (Q-9): "Result as of a run .. bits 58–63 the place in the list (from 0) of the entry that is named"
pub record WatchedWhole (a : Watched) : Type 0 where
  pub number : low_at 16 a.number ≡ a.number
  pub steps : low_at 16 a.steps ≡ a.steps
  pub bus : low_at 24 a.bus ≡ a.bus
  pub place : low_at 6 a.place ≡ a.place
