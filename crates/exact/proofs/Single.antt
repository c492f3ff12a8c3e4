-- No second result: a call's promise, and those of its parts, the step, the instructions, the bus, the journal and the record below it, leave one result,
-- one memory and one journal. A promise of the form `result ≡ definition` needs no word here.
use Prim.Native.Nat.{ℕ, zero, suc}
use mathlib.Core.Path.{◌≡◌, refl, ◌∙◌, sym, ap}
use mathlib.Core.Bool.{cond}
use mathlib.Core.List.{List}
use Rattle.std.specs.Prelude.{Result, Ok, Err}
use lib.Dec.{eqb}
use Rattle.bus.specs.Addresses.{Bus, bus}
use Rattle.bus.specs.declared.state.Cpu.{Cpu}
use Rattle.bus.specs.declared.state.Stretch.{Stretch}
use Rattle.bus.specs.declared.state.Board.{Board}
use Rattle.computing.specs.Instructions.{Moved, moves}
use Rattle.memory.specs.Instructions.{Loaded, loads}
use Rattle.memory.specs.Code.{Over, over_as}
use Rattle.memory.specs.declared.storing.Written.{Written}
use Rattle.cpu.specs.Code.{Told, told_as}
use Rattle.cpu.specs.declared.step.Done.{Done}
use Rattle.history.specs.Trace.{Undo, Answer, Cause, no_run, budget, stopped, Call}
use Rattle.history.specs.Ring.{Ring, ring_of}
use Rattle.history.specs.declared.Place.{Place}
use Rattle.records.specs.Record.{undo_from}
use Rattle.records.specs.Code.{undo_as}
use Rattle.records.specs.declared.Before.{Before}
use Rattle.calls.specs.Inputs.{Input}
use Rattle.calls.specs.Calls.{W, world_of, said_by, replied, Keeps}
use Rattle.calls.specs.Code.{Acts, checked}
use Rattle.calls.specs.declared.state.Machine.{Machine as MachineT}
use Rattle.calls.specs.declared.state.Refusal.{Refusal}
use Rattle.calls.specs.declared.state.Answer.{Answer as AnswerT}
use Rattle.calls.specs.declared.state.Answer.TheVariants.{Accepted, Stepped, Ran, Refused}
use Rattle.calls.specs.declared.state.Stop.{Stop}
use Rattle.calls.specs.declared.state.Stop.TheVariants.{Halted, Budget}
use Rattle.calls.specs.declared.state.Reply.{Reply}
use Rattle.boundary.specs.Boundary.{Crossed, Crosses}
use Rattle.entries.specs.declared.Entry.{Entry}
use Rattle.watched.specs.Answer.{Watched as Watching}
use Rattle.watched.specs.Code.{Watches}
use Rattle.watched.specs.declared.Watched.{Watched}
use Rattle.crossing.specs.Crossing.{CrossedList, CrossesWatched}
use Rattle.recording.specs.Code.{Turn, turn_as}
use Rattle.recording.specs.declared.Recorded.{Recorded}

-- an answer, read back from the paper's number and values
abbrev pub refusal_from : ℕ → Refusal
refusal_from n =
    cond (eqb n 1) Refusal.RamTooLong
    (cond (eqb n 2) Refusal.BadJournal
    (cond (eqb n 3) Refusal.BadState
    (cond (eqb n 4) Refusal.Halted
    (cond (eqb n 5) Refusal.NotReady
    (cond (eqb n 6) Refusal.NoRegister
    (cond (eqb n 7) Refusal.NotRam
    (cond (eqb n 8) Refusal.NoRecord Refusal.BadRecord)))))))

abbrev answer_from : ℕ → ℕ → ℕ → Cause → AnswerT
answer_from (suc n) s b c = Refused (refusal_from (suc n))
answer_from zero s b no_run = cond (eqb s 1) (Stepped b) Accepted
answer_from zero s b budget = Ran (record { steps = s; bus = b; stop = Budget })
answer_from zero s b stopped = Ran (record { steps = s; bus = b; stop = Halted })

refusal-back : (why : Refusal) (w : W) → answer_from (said_by (Refused why) w).number 0 0 no_run ≡ Refused why
refusal-back Refusal.RamTooLong w = refl
refusal-back Refusal.BadJournal w = refl
refusal-back Refusal.BadState w = refl
refusal-back Refusal.Halted w = refl
refusal-back Refusal.NotReady w = refl
refusal-back Refusal.NoRegister w = refl
refusal-back Refusal.NotRam w = refl
refusal-back Refusal.NoRecord w = refl
refusal-back Refusal.BadRecord w = refl

run-back : (s b : ℕ) (t : Stop) (w : W) →
    answer_from 0 s b (said_by (Ran (record { steps = s; bus = b; stop = t })) w).cause ≡ Ran (record { steps = s; bus = b; stop = t })
run-back s b Halted w = refl
run-back s b Budget w = refl

answer_back : (a : AnswerT) (w : W) → answer_from (said_by a w).number (said_by a w).steps (said_by a w).bus (said_by a w).cause ≡ a
answer_back Accepted w = refl
answer_back (Stepped b) w = refl
answer_back (Ran r) w = run-back r.steps r.bus r.stop w
answer_back (Refused why) w = refusal-back why w

pub world-back : (a : AnswerT) (w : W) → (said_by a w).world ≡ w
world-back Accepted w = refl
world-back (Stepped b) w = refl
world-back (Ran r) w = refl
world-back (Refused why) w = refl

-- what every call checks first, read back from the number that is promised
abbrev check_from : ℕ → Result (Unit {0}) Refusal
check_from zero = Ok tt
check_from (suc n) = Err (refusal_from (suc n))

check-back : (r : Result (Unit {0}) Refusal) → check_from (checked r) ≡ r
check-back (Ok t) = refl
check-back (Err Refusal.RamTooLong) = refl
check-back (Err Refusal.BadJournal) = refl
check-back (Err Refusal.BadState) = refl
check-back (Err Refusal.Halted) = refl
check-back (Err Refusal.NotReady) = refl
check-back (Err Refusal.NoRegister) = refl
check-back (Err Refusal.NotRam) = refl
check-back (Err Refusal.NoRecord) = refl
check-back (Err Refusal.BadRecord) = refl

-- for the checks (`checks::check`): two answers of the number that is promised are the same
pub single-check : (n : ℕ) (r r' : Result (Unit {0}) Refusal) → checked r ≡ n → checked r' ≡ n → r ≡ r'
single-check n r r' p q = sym (check-back r) ∙ ap check_from (p ∙ sym q) ∙ check-back r'

abbrev reply : AnswerT → MachineT → Reply
reply a m = record { answer = a; machine = m }

abbrev reply_from : Answer Cpu Ring → W → Reply
reply_from a w = reply (answer_from a.number a.steps a.bus a.cause) (record { cpu = w.box.cpu; next = w.journal.next; held = w.journal.held })

module _ (r r' : Reply) (ram ram' ws ws' : List ℕ) where
  -- one reply, one memory, one journal
  abbrev pub Alike : Type 0
  Alike = (r ≡ r') × (ram ≡ ram') × (ws ≡ ws')

  alike : replied r ram ws ≡ replied r' ram' ws' → Alike
  alike e =
      let w = world_of r.machine ram ws in
      let w' = world_of r'.machine ram' ws' in
      let q : w ≡ w' = sym (world-back r.answer w) ∙ ap (λ (a : Answer Cpu Ring). a.world) e ∙ world-back r'.answer w' in (
        ap (λ (a : AnswerT). reply a r.machine) (sym (answer_back r.answer w))
            ∙ ap (λ (a : Answer Cpu Ring). reply_from a w) e
            ∙ ap (reply_from (replied r' ram' ws')) q
            ∙ ap (λ (a : AnswerT). reply a r'.machine) (answer_back r'.answer w'),
        ap (λ (v : W). v.box.ram) q,
        ap (λ (v : W). v.journal.words) q,
      )

  -- for all calls (`machine::answer`): two results that both keep the promise are the same, and so are memory and journal
  pub single : (c : Call Input) (m : MachineT) (ram₀ ws₀ : List ℕ) → Keeps c m ram₀ ws₀ r ram ws → Keeps c m ram₀ ws₀ r' ram' ws' → Alike
  single c m ram₀ ws₀ p q = alike (sym p ∙ q)

  -- for their parts, once the checks are passed: every input, the run, the step back
  pub single-part : (c : Call Input) (m : MachineT) (ram₀ ws₀ : List ℕ) → Acts c m ram₀ ws₀ r ram ws → Acts c m ram₀ ws₀ r' ram' ws' → Alike
  single-part c m ram₀ ws₀ p q = alike (sym p ∙ q)

-- for the exports of the C boundary: result, state words, memory and journal
pub single-export : (c : Call Input) (w ram ws : List ℕ) (r r' : ℕ) (w₁ w₂ ram₁ ram₂ ws₁ ws₂ : List ℕ) →
    Crosses c w ram ws r w₁ ram₁ ws₁ → Crosses c w ram ws r' w₂ ram₂ ws₂ → (r ≡ r') × (w₁ ≡ w₂) × (ram₁ ≡ ram₂) × (ws₁ ≡ ws₂)
single-export c w ram ws r r' w₁ w₂ ram₁ ram₂ ws₁ ws₂ p q =
    let e = sym p ∙ q in
    (ap (λ (x : Crossed). x.result) e, ap (λ (x : Crossed). x.words) e, ap (λ (x : Crossed). x.ram) e, ap (λ (x : Crossed). x.journal) e)

-- for a watched run (`watched::run_watched`): all that it returns, memory, journal and the list
pub single-watched : (n : ℕ) (m : MachineT) (ram ws : List ℕ) (l : List Entry) (r r' : Watched) (ram₁ ram₂ ws₁ ws₂ : List ℕ) (l₁ l₂ : List Entry) →
    Watches n m ram ws l r ram₁ ws₁ l₁ → Watches n m ram ws l r' ram₂ ws₂ l₂ → (r ≡ r') × (ram₁ ≡ ram₂) × (ws₁ ≡ ws₂) × (l₁ ≡ l₂)
single-watched n m ram ws l r r' ram₁ ram₂ ws₁ ws₂ l₁ l₂ p q =
    let e = sym p ∙ q in
    (ap watched_from e, ap (λ (x : Watching). x.world.box.ram) e, ap (λ (x : Watching). x.world.journal.words) e, ap (λ (x : Watching). x.list) e)
  where
    watched_from : Watching → Watched
    watched_from x =
        record {
          number = x.number;
          told = record { steps = x.steps; bus = x.bus; ending = x.ending; met = x.met; place = x.place };
          machine = record { cpu = x.world.box.cpu; next = x.world.journal.next; held = x.world.journal.held };
        }

-- for its export: result, state words, memory, journal and the list
pub single-watched-export : (n : ℕ) (w ram ws : List ℕ) (l : List Entry) (r r' : ℕ) (w₁ w₂ ram₁ ram₂ ws₁ ws₂ : List ℕ) (l₁ l₂ : List Entry) →
    CrossesWatched n w ram ws l r w₁ ram₁ ws₁ l₁ → CrossesWatched n w ram ws l r' w₂ ram₂ ws₂ l₂ →
    (r ≡ r') × (w₁ ≡ w₂) × (ram₁ ≡ ram₂) × (ws₁ ≡ ws₂) × (l₁ ≡ l₂)
single-watched-export n w ram ws l r r' w₁ w₂ ram₁ ram₂ ws₁ ws₂ l₁ l₂ p q =
    let e = sym p ∙ q in (
      ap (λ (x : CrossedList). x.crossed.result) e,
      ap (λ (x : CrossedList). x.crossed.words) e,
      ap (λ (x : CrossedList). x.crossed.ram) e,
      ap (λ (x : CrossedList). x.crossed.journal) e,
      ap (λ (x : CrossedList). x.list) e,
    )

-- for the recorded step: all that it returns, registers, CSRs, memory and journal
pub single-recorded : (r r' : Recorded) (g g' k k' m m' ws ws' : List ℕ) → turn_as r g k m ws ≡ turn_as r' g' k' m' ws' →
    (r ≡ r') × (g ≡ g') × (k ≡ k') × (m ≡ m') × (ws ≡ ws')
single-recorded r r' g g' k k' m m' ws ws' e = (
  ap recorded_from e,
  ap (λ (x : Turn). x.world.box.cpu.regs) e,
  ap (λ (x : Turn). x.world.box.cpu.csrs) e,
  ap (λ (x : Turn). x.world.box.ram) e,
  ap (λ (x : Turn). x.world.journal.words) e,
)
  where
    recorded_from : Turn → Recorded
    recorded_from x =
        record {
          board = x.world.box.cpu.board;
          place = record { next = x.world.journal.next; held = x.world.journal.held };
          count = x.count;
          first = x.first;
          bus = x.bus;
        }

-- for the step: registers, CSRs, memory and all that it returns
pub single_step : (g g' k k' m m' : List ℕ) (q q' : Done) → told_as g k q m ≡ told_as g' k' q' m' → (g ≡ g') × (k ≡ k') × (m ≡ m') × (q ≡ q')
single_step g g' k k' m m' q q' e =
    (ap (λ (x : Told). x.step.box.cpu.regs) e, ap (λ (x : Told). x.step.box.cpu.csrs) e, ap (λ (x : Told). x.step.box.ram) e, ap done_from e)
  where
    done_from : Told → Done
    done_from x = record { board = x.step.box.cpu.board; count = x.step.count; first = x.step.first; old = x.old; bus = x.step.bus }

-- for a write: the rest of the state and memory
pub single-write : (b b' : Board) (m m' : List ℕ) → bus b m ≡ bus b' m' → (b ≡ b') × (m ≡ m')
single-write b b' m m' e = (ap (λ (u : Bus). u.board) e, ap (λ (u : Bus). u.ram) e)

-- for the instructions whose promise is of more than the registers: CSRs, how many bytes were loaded, memory and all that a store returns
pub single-move : (g g' k k' : List ℕ) → moves g k ≡ moves g' k' → (g ≡ g') × (k ≡ k')
single-move g g' k k' e = (ap (λ (x : Moved). x.regs) e, ap (λ (x : Moved). x.csrs) e)

pub single-load : (g g' : List ℕ) (n n' : ℕ) → loads g n ≡ loads g' n' → (g ≡ g') × (n ≡ n')
single-load g g' n n' e = (ap (λ (x : Loaded). x.regs) e, ap (λ (x : Loaded). x.bytes) e)

pub single-store : (g g' m m' : List ℕ) (q q' : Written) → over_as g q m ≡ over_as g' q' m' → (g ≡ g') × (m ≡ m') × (q ≡ q')
single-store g g' m m' q q' e = (ap (λ (x : Over). x.stored.regs) e, ap (λ (x : Over). x.stored.bus.ram) e, ap written_from e)
  where
    written_from : Over → Written
    written_from x = record { board = x.stored.bus.board; count = x.stored.count; first = x.stored.first; old = x.old }

-- for a push to the journal (`history::push`): next slot, records held and the journal's words
pub single-push : (j : Ring) (p p' : Place) (ws ws' : List ℕ) → ring_of ws p.next p.held ≡ j → ring_of ws' p'.next p'.held ≡ j → (p ≡ p') × (ws ≡ ws')
single-push j p p' ws ws' e e' =
    let q = e ∙ sym e' in
    (ap (λ (x : Ring). record { next = x.next; held = x.held }) q, ap (λ (x : Ring). x.words) q)

-- for a record read (`records::decode`): all that it returns
pub single-decode : (p : Stretch) (w : List ℕ) (r r' : Before) → undo_from p w ≡ undo_as r → undo_from p w ≡ undo_as r' → r ≡ r'
single-decode p w r r' e e' =
    ap (λ (u : Undo Cpu). record { cpu = u.cpu; count = u.count; first = u.first; low = u.low; high = u.high }) (sym e ∙ e')
