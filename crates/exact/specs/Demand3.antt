-- Demand 3, in its own words, about the calls' promises. `proofs/Seen.antt` proves it.
use Rattle.std.specs.Prelude.{ℕ, ◌%◌, ◌≤◌, ◌<◌, ◌^◌, ◌≡◌, List, [], ◌∷◌, length}
use Rattle.std.proofs.Math.Option.{some}
use Rattle.bus.specs.State.{reset}
use Rattle.bus.specs.Good.{Within}
use Rattle.bus.specs.declared.state.Cpu.{Cpu}
use Rattle.bus.specs.declared.state.Stretch.{Stretch}
use Rattle.history.specs.Trace.{Answer, Call, give, run, back, Left, leaves, up_to, ruled, back_number}
use Rattle.history.specs.Ring.{Ring, slots}
use Rattle.calls.specs.Inputs.{Input, step, tick, receive, sent, set_register, poke, resets, box, machine}
use Rattle.calls.specs.Calls.{W, answer_of, world_of, replied, Keeps, started}
use Rattle.calls.specs.declared.state.Machine.{Machine}
use Rattle.calls.specs.declared.state.Reply.{Reply}
use Rattle.entries.specs.declared.Entry.{Entry}
use Rattle.watched.specs.Answer.{as_run}
use Rattle.watched.specs.Code.{answer_as, Watches}
use Rattle.watched.specs.declared.Watched.{Watched}

-- "of any allowed size"; memory is bytes
pub record Allowed (m ws : List ℕ) : Type 0 where
  pub ram : length m ≤ 65504
  pub bytes : Within 8 m
  pub whole : length ws % 32 ≡ 0
  pub words : length ws ≤ 32768

-- one of "our calls": what it was, what the code returned, and memory and journal afterwards; of a watched run (Q-9) its budget, the list, what the
-- code returned, memory and journal afterwards, and the list afterwards
pub data Made : Type 0 where
  made : Call Input → Reply → List ℕ → List ℕ → Made
  watching : ℕ → List Entry → Watched → List ℕ → List ℕ → List Entry → Made

abbrev pub called : Made → Call Input
called (made c r ram ws) = c
called (watching n l r ram ws l') = run n

abbrev pub answered : Made → Answer Cpu Ring
answered (made c r ram ws) = replied r ram ws
answered (watching n l r ram ws l') = as_run (answer_as r ram ws l')

abbrev pub machine_after : Made → Machine
machine_after (made c r ram ws) = r.machine
machine_after (watching n l r ram ws l') = r.machine

abbrev pub ram_after : Made → List ℕ
ram_after (made c r ram ws) = ram
ram_after (watching n l r ram ws l') = ram

abbrev pub words_after : Made → List ℕ
words_after (made c r ram ws) = ws
words_after (watching n l r ram ws l') = ws

-- its arguments are of their types: a byte, a word
abbrev pub Fits : Input → Type 0
Fits step = Unit {0}
Fits tick = Unit {0}
Fits (receive x) = x < 2 ^ 8
Fits sent = Unit {0}
Fits (set_register i x) = x < 2 ^ 16
Fits (poke a x) = x < 2 ^ 8
Fits resets = Unit {0}

abbrev pub Typed : Call Input → Type 0
Typed (give i) = Fits i
Typed (run n) = Unit {0}
Typed back = Unit {0}

-- a call keeps its promise
abbrev pub Kept : Machine → List ℕ → List ℕ → Made → Type 0
Kept m ram ws (made c r ram' ws') = Typed c × Keeps c m ram ws r ram' ws'
Kept m ram ws (watching n l r ram' ws' l') = Watches n m ram ws l r ram' ws' l'

-- "fixed from then on, let only our calls touch either, and hand each call the state that the last one returned": each call keeps its promise, on
-- the machine, memory and journal that the one before it left
abbrev pub Chain : Machine → List ℕ → List ℕ → List Made → Type 0
Chain m ram ws [] = Unit {0}
Chain m ram ws (x ∷ xs) = Kept m ram ws x × Chain (machine_after x) (ram_after x) (words_after x) xs

-- what stands after the calls
abbrev pub last : Machine → List ℕ → List ℕ → List Made → W
last m ram ws [] = world_of m ram ws
last m ram ws (x ∷ xs) = last (machine_after x) (ram_after x) (words_after x) xs

-- "the inputs not taken back", newest first, and "the number held": it "starts at 0, grows by one per accepted input up to the journal's slots
-- (a run counts as its steps), and falls by one per step-back"; by the numbers and steps that the code returned
abbrev pub left_by : ℕ → Left Input → List Made → Left Input
left_by n l [] = l
left_by n l (x ∷ xs) = left_by n (leaves (up_to n) step (called x) (answered x).number (answered x).steps l) xs

abbrev pub left : List ℕ → List Made → Left Input
left ws xs = left_by (slots ws) (record { inputs = []; held = 0 }) xs

-- "Start from reset, with memory and an empty journal .. After any mix of accepted inputs and step-backs"
abbrev pub ended : Stretch → List ℕ → List ℕ → List Made → W
ended p m ws xs = last (started p) m ws xs

-- for any protected addresses at the start (Q-4): "demands 2 and 3 read with the drop", which is the rules' own
pub record Demand3 (p : Stretch) (m ws : List ℕ) (xs : List Made) : Type 0 where
  -- "registers, status registers, halted mark, devices and memory are what demand 2's rules give for the inputs not taken back, run in order
  -- from the start"
  pub state : ruled machine (box (reset p) m) (left ws xs).inputs ≡ some (ended p m ws xs).box
  pub held : (ended p m ws xs).journal.held ≡ (left ws xs).held
  -- "A step-back is refused exactly when no record is held": with 8 then, and else with nothing, so that 1, 2, 3 and 9 never come up
  pub refused : (answer_of back (ended p m ws xs)).number ≡ back_number (left ws xs).held
