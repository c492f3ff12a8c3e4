-- Demand 3 over the C boundary, for who links libmb50.a: "Stepping back is exact for a caller who starts from the starting state below with memory and
-- journal of an allowed size, and hands each call the words, RAM and journal that the last one left". Sentences are of docs/BOUNDARY.md where it is not
-- said that they are the demand's. `proofs/Across.antt` proves it.
use Rattle.std.specs.Prelude.{ℕ, ◌≤◌, ◌≡◌, List, [], ◌∷◌}
use Rattle.std.proofs.Math.Option.{some}
use Rattle.word.specs.Word.{low_at, high_at}
use Rattle.bus.specs.State.{word, reset}
use Rattle.bus.specs.declared.state.Stretch.{Stretch}
use Rattle.history.specs.Trace.{Call, run, back, Left, leaves, up_to, ruled, back_number}
use Rattle.history.specs.Ring.{slots}
use Rattle.calls.specs.Inputs.{Input, step, box, machine}
use Rattle.calls.specs.Calls.{W, world_of}
use Rattle.boundary.specs.Boundary.{start_words, stretch_in, taken, Crosses}
use Rattle.entries.specs.declared.Entry.{Entry}
use Rattle.crossing.specs.Crossing.{CrossesWatched}
use Rattle.exact.specs.Demand3.{Typed}
use Rattle.exact.specs.Fields.{Budgeted}

-- "0–15 the refusal's number, 0 if accepted"
abbrev pub number_in : ℕ → ℕ
number_in result = low_at 16 result

-- "16–31 the steps of a run; 0 for any other call, a lone step too"
abbrev pub steps_in : ℕ → ℕ
steps_in result = low_at 16 (high_at 16 result)

-- "the caller owns state, RAM and journal"
pub record Owned : Type 0 where
  pub words : List ℕ
  pub ram : List ℕ
  pub journal : List ℕ

-- the machine that the words mean, with its memory and its journal
abbrev pub meant : Owned → W
meant o = world_of (taken o.words) o.ram o.journal

-- an export's promise
abbrev pub Kept : Call Input → Owned → ℕ → Owned → Type 0
Kept c o r o' = Crosses c o.words o.ram o.journal r o'.words o'.ram o'.journal

-- one call: what it was, what it returned, and what the caller owns afterwards; of a watched run (Q-9) its budget, the list, what it returned, what the
-- caller owns afterwards, and the list afterwards
pub data Exported : Type 0 where
  exported : Call Input → ℕ → Owned → Exported
  watching : ℕ → List Entry → ℕ → Owned → List Entry → Exported

abbrev pub called : Exported → Call Input
called (exported c r o) = c
called (watching n l r o l') = run n

abbrev pub result_in : Exported → ℕ
result_in (exported c r o) = r
result_in (watching n l r o l') = r

abbrev pub owned_after : Exported → Owned
owned_after (exported c r o) = o
owned_after (watching n l r o l') = o

-- arguments are what C can pass: "uint8_t byte", "uint16_t content", "uint16_t budget"
abbrev pub Promised : Owned → Exported → Type 0
Promised o (exported c r o') = (Typed c × Budgeted c) × Kept c o r o'
Promised o (watching n l r o' l') = (n ≤ 65535) × CrossesWatched n o.words o.ram o.journal l r o'.words o'.ram o'.journal l'

-- "Nothing is kept between calls: the caller owns state, RAM and journal, and hands all three to each call": each export keeps its promise, on what the
-- one before it left
abbrev pub Exports : Owned → List Exported → Type 0
Exports o [] = Unit {0}
Exports o (x ∷ xs) = Promised o x × Exports (owned_after x) xs

-- what the caller owns after the calls
abbrev pub owned : Owned → List Exported → Owned
owned o [] = o
owned o (x ∷ xs) = owned (owned_after x) xs

-- the demand's "inputs not taken back", newest first, and number held, by the numbers and steps in the results
abbrev pub left_over : ℕ → Left Input → List Exported → Left Input
left_over n l [] = l
left_over n l (x ∷ xs) = left_over n (leaves (up_to n) step (called x) (number_in (result_in x)) (steps_in (result_in x)) l) xs

abbrev pub left_in : List ℕ → List Exported → Left Input
left_in ws xs = left_over (slots ws) (record { inputs = []; held = 0 }) xs

-- the demand's "Start from reset, with memory and an empty journal": the start words, with any protected addresses (Q-4), and any RAM and journal
abbrev pub start_owned : Stretch → List ℕ → List ℕ → Owned
start_owned p m ws = record { words = start_words p; ram = m; journal = ws }

abbrev pub owned_at_end : Stretch → List ℕ → List ℕ → List Exported → Owned
owned_at_end p m ws xs = owned (start_owned p m ws) xs

pub record Demand3Across (p : Stretch) (m ws : List ℕ) (xs : List Exported) : Type 0 where
  -- the demand: "registers, status registers, halted mark, devices and memory are what demand 2's rules give for the inputs not taken back, run in
  -- order from the start"
  pub state : ruled machine (box (reset p) m) (left_in ws xs).inputs ≡ some (meant (owned_at_end p m ws xs)).box
  -- "read and given back as they came"
  pub stretch : stretch_in (owned_at_end p m ws xs).words ≡ p
  -- "26 records held"
  pub held : word (owned_at_end p m ws xs).words 26 ≡ (left_in ws xs).held
  -- the demand: "A step-back is refused exactly when no record is held": whatever `mb50_step_back` returns next, its number is 8 then, and else 0
  pub refused : (r : ℕ) (o : Owned) → Kept back (owned_at_end p m ws xs) r o → number_in r ≡ back_number (left_in ws xs).held
