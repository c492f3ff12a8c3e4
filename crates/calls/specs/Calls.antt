-- "Numbered answers": what each call answers, and how the code's answers stand for it.
use Rattle.std.specs.Prelude.{ℕ, ◌%◌, Bool, cond, ◌&&◌, ◌||◌, ◌≡◌, List, leb, ltb, eqb, length}
use Rattle.bus.specs.State.{word, reset}
use Rattle.bus.specs.declared.state.Cpu.{Cpu}
use Rattle.bus.specs.declared.state.Stretch.{Stretch}
use Rattle.cpu.specs.Step.{box}
use Rattle.history.specs.Trace.{World, Effect, Undo, Store, Cause, no_run, budget, stopped, Answer, answers, Call, after, answer, plain}
use Rattle.history.specs.Ring.{Ring, ring_of, slots, ring}
use Rattle.records.specs.Record.{record_of, decoded}
use Rattle.calls.specs.Inputs.{Input, machine}
use Rattle.calls.specs.declared.state.Machine.{Machine as MachineT}
use Rattle.calls.specs.declared.state.Refusal.{Refusal}
use Rattle.calls.specs.declared.state.Answer.{Answer as AnswerT}
use Rattle.calls.specs.declared.state.Answer.TheVariants.{Accepted, Stepped, Ran, Refused}
use Rattle.calls.specs.declared.state.Stop.{Stop}
use Rattle.calls.specs.declared.state.Stop.TheVariants.{Halted, Budget}
use Rattle.calls.specs.declared.state.Reply.{Reply}

-- a machine with its memory and its journal
abbrev pub W : Type 0
W = World Cpu Ring

-- 1: "RAM longer than 65,504"
abbrev pub ram_fits : ℕ → Bool
ram_fits ram = leb ram 65504

-- 2: "journal length no multiple of 32, or over 32,768"
abbrev pub journal_fits : ℕ → Bool
journal_fits words = eqb (words % 32) 0 && leb words 32768

-- 3: "csr0 over 511; held over slots; next not below slots (with no slots: next not 0)"
abbrev pub state_fits : ℕ → Cpu → ℕ → ℕ → Bool
state_fits n c next held = leb (word c.csrs 0) 511 && (leb held n && (ltb next n || (eqb n 0 && eqb next 0)))

-- "A call on the machine checks 1, 2, 3, then its own": the first that fails, or 0
abbrev pub first_of : Bool → Bool → Bool → ℕ
first_of a b c = cond a (cond b (cond c 0 3) 2) 1

unfoldable pub check_of : W → ℕ
check_of w =
    let j = w.journal in
    first_of (ram_fits (length w.box.ram)) (journal_fits (length j.words)) (state_fits (slots j.words) w.box.cpu j.next j.held)

-- Q-4: the protected addresses
abbrev pub stretch_of : W → Stretch
stretch_of w = w.box.cpu.board.stretch

-- the journal of a machine with protected addresses: no record holds them, and what a step-back brings back has those of the machine
abbrev pub journal_of : Stretch → Store (Undo Cpu)
journal_of p = ring record_of (decoded p)

-- what an accepted input leaves: the next state, and one record more
abbrev pub went : W → Effect Cpu → W
went w e = after machine (journal_of (stretch_of w)) w e

-- what a call answers
abbrev pub answer_of : Call Input → W → Answer Cpu Ring
answer_of c w = answer machine (journal_of (stretch_of w)) check_of c w

-- what it answers where the checks are passed
abbrev pub plain_of : Call Input → W → Answer Cpu Ring
plain_of c w = plain machine (journal_of (stretch_of w)) c w

-- machine, RAM and journal words
abbrev pub world_of : MachineT → List ℕ → List ℕ → W
world_of m ram ws = record { box = box m.cpu ram; journal = ring_of ws m.next m.held }

-- a run's cause
abbrev pub cause_is : Stop → Cause
cause_is Halted = stopped
cause_is Budget = budget

-- the paper's number for each refusal
abbrev pub number_of : Refusal → ℕ
number_of Refusal.RamTooLong = 1
number_of Refusal.BadJournal = 2
number_of Refusal.BadState = 3
number_of Refusal.Halted = 4
number_of Refusal.NotReady = 5
number_of Refusal.NoRegister = 6
number_of Refusal.NotRam = 7
number_of Refusal.NoRecord = 8
number_of Refusal.BadRecord = 9

-- the paper's number and values for each case of an answer
abbrev pub said_by : AnswerT → W → Answer Cpu Ring
said_by Accepted w = answers 0 0 0 no_run w
said_by (Stepped bus) w = answers 0 1 bus no_run w
said_by (Ran r) w = answers 0 r.steps r.bus (cause_is r.stop) w
said_by (Refused why) w = answers (number_of why) 0 0 no_run w

abbrev pub replied : Reply → List ℕ → List ℕ → Answer Cpu Ring
replied r ram ws = said_by r.answer (world_of r.machine ram ws)

-- what each call promises: of the machine, RAM and journal before, and of its reply, RAM and journal after
abbrev pub Keeps : Call Input → MachineT → List ℕ → List ℕ → Reply → List ℕ → List ℕ → Type 0
Keeps c m ram ws r ram' ws' = answer_of c (world_of m ram ws) ≡ replied r ram' ws'

-- "The starting state is this one with next slot and records held 0."; Q-4: with its protected addresses
abbrev pub started : Stretch → MachineT
started p = record { cpu = reset p; next = 0; held = 0 }
