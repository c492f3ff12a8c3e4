-- Number, steps and bus bytes of an answer: a refusal has a number of the table, a step moves at most four bytes, a run has at most as many steps as its
-- budget, every other input has none of either.
use Prim.Native.Nat.{ℕ, zero, suc, ◌*◌, ◌≤◌}
use mathlib.Core.List.{List}
use mathlib.Core.Option.{Option, some, none}
use native.Mathlib.Omega.{arith}
use lib.Dec.{ltb}
use lib.ListN.{length}
use Rattle.isa.specs.Opcode.{meaning, condition_holds}
use Rattle.isa.specs.declared.opcode.Op.{Op}
use Rattle.isa.specs.declared.opcode.Op.TheVariants.{Illegal, Alu, Compare, Move, Load, Store}
use Rattle.isa.specs.declared.opcode.LoadOp.{LoadOp}
use Rattle.isa.specs.declared.opcode.LoadOp.TheVariants.{Ld, Ldb, Ldis, LdIf, LdisIf}
use Rattle.isa.specs.declared.opcode.StoreOp.{StoreOp}
use Rattle.isa.specs.declared.opcode.StoreOp.TheVariants.{Sto, Stob, Ddsto}
use Rattle.names.specs.Names.{F, PC}
use Rattle.bus.specs.State.{word}
use Rattle.bus.specs.Addresses.{byte_at}
use Rattle.bus.specs.declared.state.Cpu.{Cpu}
use Rattle.bus.specs.declared.state.Stretch.{Stretch}
use Rattle.bus.specs.declared.state.Board.{Board}
use Rattle.bus.specs.declared.state.Devices.{Devices}
use Rattle.bus.proofs.Kept.{picked}
use Rattle.memory.specs.Instructions.{Loaded, loaded, stored}
use Rattle.exceptions.specs.Exceptions.{due}
use Rattle.cpu.specs.Step.{executed, past, runs, step_of}
use Rattle.history.specs.Trace.{Box, Effect, Next, refuses, gives, Popped, denies, hands, Undo, Answer, Call, give, run, back}
use Rattle.history.specs.Trace.{guarded, gave, backed, stepped, ran, plain}
use Rattle.history.specs.Ring.{Ring, slots, slot_before, slot_words, popped, popped_at}
use Rattle.records.specs.Record.{decoded}
use Rattle.calls.specs.Inputs.{Input, step, tick, receive, sent, set_register, poke, resets, next_of, steps_of, machine}
use Rattle.calls.specs.Calls.{W, ram_fits, journal_fits, state_fits, check_of, stretch_of, journal_of, went, answer_of}
use Rattle.exact.specs.Fields.{Budgeted, Counted, CountsWhole}

-- ---- one step
Small : Effect Cpu → Type 0
Small x = x.bus ≤ 4

loaded-small : (op : LoadOp) (g : List ℕ) (v : Devices) (m : List ℕ) (o d s : ℕ) → (loaded op g v m o d s).bytes ≤ 2
unfolding loaded
loaded-small Ld g v m o d s = omega arith
loaded-small Ldb g v m o d s = omega arith
loaded-small Ldis g v m o d s = omega arith
loaded-small LdIf g v m o d s = picked (λ (x : Loaded). x.bytes ≤ 2) (condition_holds o (word g F)) (omega arith) (omega arith)
loaded-small LdisIf g v m o d s = picked (λ (x : Loaded). x.bytes ≤ 2) (condition_holds o (word g F)) (omega arith) (omega arith)

stored-small : (op : StoreOp) (g : List ℕ) (b : Board) (m : List ℕ) (d s : ℕ) → (stored op g b m d s).count ≤ 2
unfolding stored
stored-small Sto g b m d s = omega arith
stored-small Stob g b m d s = omega arith
stored-small Ddsto g b m d s = omega arith

executed-small : (op : Op) (c : Cpu) (m : List ℕ) (o d s : ℕ) → Small (executed op c m o d s)
unfolding executed Small
executed-small (Illegal reason) c m o d s = omega arith
executed-small (Alu op) c m o d s = omega arith
executed-small (Compare op) c m o d s = omega arith
executed-small (Move op) c m o d s = omega arith
executed-small (Load op) c m o d s = omega (arith, loaded-small op c.regs c.board.devices m o d s)
executed-small (Store op) c m o d s = omega (arith, stored-small op c.regs c.board m d s)

-- a step moves at most four bytes: two of the instruction, two that it loads or stores
pub bus-small : (c : Cpu) (m : List ℕ) → (step_of c m).bus ≤ 4
unfolding step_of runs Small
bus-small c m =
    picked Small (due (word c.regs F)) (omega arith) (executed-small (meaning (byte_at c.board.devices m (word c.regs PC))).op (past c) m _ _ _)

-- ---- one input that counts as s steps, or its refusal
Light : ℕ → Next Cpu → Type 0
Light s (refuses n) = n ≤ 9
Light s (gives e) = e.bus ≤ 4 * s

light : (i : Input) (b : Box Cpu) → Light (steps_of i) (next_of i b)
unfolding next_of Light
light step b = picked (Light 1) b.cpu.board.halted (omega arith) (bus-small b.cpu b.ram)
light tick b = omega arith
light (receive x) b = picked (Light 0) b.cpu.board.devices.r (omega arith) (omega arith)
light sent b = picked (Light 0) b.cpu.board.devices.t (omega arith) (omega arith)
light (set_register i x) b = picked (Light 0) (ltb i 16) (omega arith) (omega arith)
light (poke a x) b = picked (Light 0) (ltb a (length b.ram)) (omega arith) (omega arith)
light resets b = omega arith

steps-small : (i : Input) → steps_of i ≤ 1
steps-small step = omega arith
steps-small tick = omega arith
steps-small (receive x) = omega arith
steps-small sent = omega arith
steps-small (set_register i x) = omega arith
steps-small (poke a x) = omega arith
steps-small resets = omega arith

-- ---- one call
-- a refusal of the table, at most n steps, and at most four bus bytes for each
record Few (n : ℕ) (a : Answer Cpu Ring) : Type 0 where
  number : a.number ≤ 9
  steps : a.steps ≤ n
  each : a.bus ≤ 4 * a.steps

-- by the journal of any protected addresses
module _ (p : Stretch) where
  gave-few : (w : W) (s : ℕ) (x : Next Cpu) → Light s x → Few s (gave machine (journal_of p) w s x)
  unfolding Light
  gave-few w s (refuses n) l = record { number = l; steps = omega arith; each = omega arith }
  gave-few w s (gives e) l = record { number = omega arith; steps = omega arith; each = l }

  stepped-few : (n : ℕ) (k : W → Answer Cpu Ring) (w : W) (x : Next Cpu) → ((v : W) → Few n (k v)) → Light 1 x → Few (suc n) (stepped machine (journal_of p) k w x)
  unfolding Light
  stepped-few n k w (refuses m) h l = record { number = omega arith; steps = omega arith; each = omega arith }
  stepped-few n k w (gives e) h l =
      let f = h (went w e) in
      record { number = omega arith; steps = omega (arith, f.steps); each = omega (arith, f.each, l) }

  ran-few : (n : ℕ) (w : W) → Few n (ran machine (journal_of p) n w)
  ran-few zero w = record { number = omega arith; steps = omega arith; each = omega arith }
  ran-few (suc n) w = stepped-few n (ran machine (journal_of p) n) w (next_of step w.box) (ran-few n) (light step w.box)

  Told : Popped (Undo Cpu) Ring → Type 0
  Told (denies n) = n ≤ 9
  Told (hands u j) = Unit {0}

  pop-told : (k h : ℕ) (j : Ring) → Told (popped_at (decoded p) k h j)
  unfolding Told
  pop-told k zero j = omega arith
  pop-told k (suc n) j = go (decoded p (slot_words j.words k))
    where
      go : (x : Option (Undo Cpu)) → Told (popped k x j)
      go none = omega arith
      go (some u) = tt

  backed-few : (w : W) (x : Popped (Undo Cpu) Ring) → Told x → Few 0 (backed machine (journal_of p) w x)
  unfolding Told
  backed-few w (denies n) l = record { number = l; steps = omega arith; each = omega arith }
  backed-few w (hands u j) l = record { number = omega arith; steps = omega arith; each = omega arith }

  wider : {n : ℕ} {a : Answer Cpu Ring} → n ≤ 65535 → Few n a → Counted a
  wider h f = record { number = f.number; steps = omega (arith, f.steps); each = f.each; bus = omega (arith, f.steps, f.each) }

  plain-counts : (c : Call Input) (w : W) → Budgeted c → Counted (plain machine (journal_of p) c w)
  plain-counts (give i) w h = wider (omega (arith, steps-small i)) (gave-few w (steps_of i) (next_of i w.box) (light i w.box))
  plain-counts (run n) w h = wider h (ran-few n w)
  plain-counts back w h =
      let j = w.journal in
      wider (omega arith) (backed-few w ((journal_of p).pop j) (pop-told (slot_before (slots j.words) j.next) j.held j))

guarded-counts : (n : ℕ) (w : W) (a : Answer Cpu Ring) → n ≤ 9 → Counted a → Counted (guarded n w a)
guarded-counts zero w a l h = h
guarded-counts (suc n) w a l h = record { number = l; steps = omega arith; each = omega arith; bus = omega arith }

pub check-small : (w : W) → check_of w ≤ 9
unfolding check_of
check-small w =
    let j = w.journal in
    picked InTable (ram_fits (length w.box.ram))
    (picked InTable (journal_fits (length j.words))
    (picked InTable (state_fits (slots j.words) w.box.cpu j.next j.held) (omega arith) (omega arith)) (omega arith)) (omega arith)
  where
    InTable : ℕ → Type 0
    InTable n = n ≤ 9

-- every answer has a number of the table, at most 65,535 steps and four bus bytes for each
pub counts : (c : Call Input) (w : W) → Budgeted c → Counted (answer_of c w)
counts c w h = guarded-counts (check_of w) w _ (check-small w) (plain-counts (stretch_of w) c w h)

-- so their fields hold them whole
pub counts_whole : (c : Call Input) (w : W) → Budgeted c → CountsWhole (answer_of c w)
counts_whole c w h =
    let f = counts c w h in
    record { number = omega (arith, f.number); steps = omega (arith, f.steps); bus = omega (arith, f.bus) }
