-- Demand 3 over the C boundary with pens among the calls: "Stepping back is exact for a caller who starts from the starting state below with memory and
-- journal of an allowed size, and hands each call the words, RAM and journal that the last one left". `proofs/Across.antt` proves it.
use Rattle.std.specs.Prelude.{ℕ, ◌≡◌, List, [], ◌∷◌}
use Rattle.std.proofs.Math.Option.{some}
use Rattle.bus.specs.State.{word, reset}
use Rattle.bus.specs.Good.{Within}
use Rattle.bus.specs.declared.state.Stretch.{Stretch}
use Rattle.history.specs.Trace.{back, Left, leaves, up_to, ruled, back_number}
use Rattle.history.specs.Ring.{slots}
use Rattle.calls.specs.Inputs.{Input, step, box, machine}
use Rattle.boundary.specs.Boundary.{stretch_in}
use Rattle.pens.specs.Pen.{pen_of}
use Rattle.pen_crossing.specs.Crossing.{CrossesPen}
use Rattle.exact.specs.Boundary3.{number_in, steps_in, Owned, meant, Kept, Exported, start_owned}
use Rattle.exact.specs.Boundary3 as Calls
use Rattle.pens_exact.specs.Nights.{named, left_by_pen}

-- one call: one of those that `Exported` has; or a pen: its line, the two manifests, the setup, what it returned, and what the caller owns afterwards
pub data Crossing : Type 0 where
  called : Exported → Crossing
  pen : (line today last setup : List ℕ) → ℕ → Owned → Crossing

abbrev pub owned_after : Crossing → Owned
owned_after (called x) = Calls.owned_after x
owned_after (pen line today last setup r o) = o

-- an export keeps its promise; "`setup` holds words of 16 bits"
abbrev pub Promised : Owned → Crossing → Type 0
Promised o (called x) = Calls.Promised o x
Promised o (pen line today last setup r o') =
    Within 16 setup × CrossesPen line today last setup o.words o.ram o.journal r o'.words o'.ram o'.journal

-- each on what the one before it left
abbrev pub Exports : Owned → List Crossing → Type 0
Exports o [] = Unit {0}
Exports o (x ∷ xs) = Promised o x × Exports (owned_after x) xs

abbrev pub owned : Owned → List Crossing → Owned
owned o [] = o
owned o (x ∷ xs) = owned (owned_after x) xs

-- the demand's "inputs not taken back" and number held, by the numbers and steps in the results. A pen tells r0 where a run tells its steps, so its
-- steps are those that the rules give
abbrev pub left_by : ℕ → Owned → Crossing → Left Input → Left Input
left_by n o (called x) l = leaves (up_to n) step (Calls.called x) (number_in (Calls.result_in x)) (steps_in (Calls.result_in x)) l
left_by n o (pen line today last setup r o') l =
    left_by_pen n setup (named line today last) (number_in r) (pen_of line today last setup (meant o)).steps l

abbrev pub left_over : ℕ → Owned → Left Input → List Crossing → Left Input
left_over n o l [] = l
left_over n o l (x ∷ xs) = left_over n (owned_after x) (left_by n o x l) xs

abbrev pub left_in : Stretch → List ℕ → List ℕ → List Crossing → Left Input
left_in p m ws xs = left_over (slots ws) (start_owned p m ws) (record { inputs = []; held = 0 }) xs

abbrev pub owned_at_end : Stretch → List ℕ → List ℕ → List Crossing → Owned
owned_at_end p m ws xs = owned (start_owned p m ws) xs

pub record Demand3PensAcross (p : Stretch) (m ws : List ℕ) (xs : List Crossing) : Type 0 where
  -- "registers, status registers, halted mark, devices and memory are what demand 2's rules give for the inputs not taken back, run in order from the start"
  pub state : ruled machine (box (reset p) m) (left_in p m ws xs).inputs ≡ some (meant (owned_at_end p m ws xs)).box
  -- "read and given back as they came"
  pub stretch : stretch_in (owned_at_end p m ws xs).words ≡ p
  -- "26 records held"
  pub held : word (owned_at_end p m ws xs).words 26 ≡ (left_in p m ws xs).held
  -- "A step-back is refused exactly when no record is held"
  pub refused : (r : ℕ) (o : Owned) → Kept back (owned_at_end p m ws xs) r o → number_in r ≡ back_number (left_in p m ws xs).held
