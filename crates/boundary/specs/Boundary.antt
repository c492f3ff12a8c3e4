-- The C boundary: the state as 32 words, and an answer as one number of 64 bits.
use Rattle.std.specs.Prelude.{ℕ, ◌+◌, ◌*◌, ◌^◌, ◌≡◌, cond, List, eqb, replicate, set}
use Rattle.word.specs.Word.{low_at}
use Rattle.bus.specs.State.{word}
use Rattle.bus.specs.declared.state.Cpu.{Cpu}
use Rattle.bus.specs.declared.state.Stretch.{Stretch}
use Rattle.history.specs.Trace.{Cause, no_run, budget, stopped, Answer, Call}
use Rattle.history.specs.Ring.{Ring}
use Rattle.records.specs.Record.{undo_from, record_with}
use Rattle.calls.specs.Inputs.{Input}
use Rattle.calls.specs.Calls.{answer_of, world_of}
use Rattle.calls.specs.declared.state.Machine.{Machine}
use Rattle.text.specs.Answer.{Answer as TextAnswer}

-- "The starting state is all words 0 but word 24, which is 2 (T=1), and words 30 and 31"
abbrev pub start_words : Stretch → List ℕ
start_words p = set (set (set (replicate 32 0) 24 2) 30 p.first) 31 p.last

-- Q-4: "state words 30 and 31 are the first and the last protected address"
abbrev pub stretch_in : List ℕ → Stretch
stretch_in w = record { first = word w 30; last = word w 31 }

-- "0–15 registers; 16–21 csr0–csr5; 22 clock; 23 RXD + 256·TXD; 24 R + 2·T + 4·halted (a number over 7 counts modulo 8)": as a journal record has
-- them; "25 next slot; 26 records held; 27–29 .. not read"
abbrev pub taken : List ℕ → Machine
taken w = record { cpu = (undo_from (stretch_in w) w).cpu; next = word w 25; held = word w 26 }

-- "27–29 .. written as 0"; next slot and records held are at most 1,024, so that their words hold them whole
abbrev pub given_but : Cpu → ℕ → ℕ → List ℕ
given_but c next held = record_with c (low_at 16 next) (low_at 16 held) 0

-- words 30 and 31 "read, and given back as they came", since no call changes the protected addresses
unfoldable pub given : Cpu → ℕ → ℕ → List ℕ
given c next held = let p = c.board.stretch in set (set (given_but c next held) 30 p.first) 31 p.last

-- "bits 0–15 the refusal's number (0: accepted); bits 16–31 the steps of a run; bits 32–55 bus bytes (step and run); bits 56–63 a run's cause"
unfoldable pub packed : ℕ → ℕ → ℕ → ℕ → ℕ
packed number steps bus cause = number + 2 ^ 16 * steps + 2 ^ 32 * low_at 24 bus + 2 ^ 56 * cause

-- "0 budget, 1 halted"; 0 where the call is no run
abbrev pub cause_number : Cause → ℕ
cause_number no_run = 0
cause_number budget = 0
cause_number stopped = 1

-- "the steps of a run": a lone step has no such value
abbrev pub run_steps : Cause → ℕ → ℕ
run_steps no_run n = 0
run_steps budget n = n
run_steps stopped n = n

abbrev pub result_of : Answer Cpu Ring → ℕ
result_of a = packed a.number (run_steps a.cause a.steps) a.bus (cause_number a.cause)

-- what a call leaves: its result, the state's words, RAM and journal
pub record Crossed : Type 0 where
  pub result : ℕ
  pub words : List ℕ
  pub ram : List ℕ
  pub journal : List ℕ

abbrev pub leaves : ℕ → List ℕ → List ℕ → List ℕ → Crossed
leaves r w ram ws = record { result = r; words = w; ram = ram; journal = ws }

-- "On acceptance the words are rewritten; on a refusal all 32 stay as given."
unfoldable pub crossed : List ℕ → Answer Cpu Ring → Crossed
crossed w a =
    leaves (result_of a)
    (cond (eqb a.number 0) (given a.world.box.cpu a.world.journal.next a.world.journal.held) w)
    a.world.box.ram a.world.journal.words

-- what each export promises: words to machine, the call, machine to words
abbrev pub Crosses : Call Input → List ℕ → List ℕ → List ℕ → ℕ → List ℕ → List ℕ → List ℕ → Type 0
Crosses c w ram ws r w' ram' ws' = crossed w (answer_of c (world_of (taken w) ram ws)) ≡ leaves r w' ram' ws'

-- "bits 0–15 the number, bits 16–31 the text's length"
abbrev pub listed : TextAnswer → ℕ
listed a = packed a.no (low_at 16 a.value) 0 0

-- "bits 0–15 the number, bits 16–31 the word"
abbrev pub assembled : TextAnswer → ℕ
assembled a = packed a.no a.value 0 0
