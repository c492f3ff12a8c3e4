-- From the machine's own promises to those of the boundary.
use Prim.Native.Nat.{ℕ}
use mathlib.Core.Path.{◌≡◌, refl, sym, ◌∙◌, ap}
use mathlib.Core.Bool.{Bool, true, false, not, cond}
use mathlib.Core.List.{List}
use lib.Dec.{eqb}
use lib.ListN.{set}
use Rattle.word.specs.Word.{low_at}
use Rattle.bus.specs.declared.state.Cpu.{Cpu}
use Rattle.history.specs.Trace.{Undo, Call, answers}
use Rattle.records.specs.Record.{undo_from, record_with}
use Rattle.records.specs.Code.{undo_as}
use Rattle.records.specs.declared.Before.{Before}
use Rattle.calls.specs.Inputs.{Input}
use Rattle.calls.specs.declared.state.Run.{Run}
use Rattle.calls.specs.declared.state.Stop.{Stop}
use Rattle.calls.specs.declared.state.Stop.TheVariants.{Halted, Budget}
use Rattle.calls.specs.Calls.{W, cause_is, Keeps, answer_of, world_of, said_by, replied}
use Rattle.calls.specs.declared.state.Machine.{Machine}
use Rattle.calls.specs.declared.state.Answer.{Answer}
use Rattle.calls.specs.declared.state.Answer.TheVariants.{Accepted, Stepped, Ran, Refused}
use Rattle.calls.specs.declared.state.Reply.{Reply}
use Rattle.boundary.specs.Boundary.{stretch_in, taken, given_but, given, packed, cause_number, result_of, Crossed, leaves, crossed, Crosses}

-- the machine in the words of a record
pub takes : (w : List ℕ) (b : Before) → undo_from (stretch_in w) w ≡ undo_as b → record { cpu = b.cpu; next = b.count; held = b.first } ≡ taken w
unfolding undo_from
takes w b e = sym (ap (λ (u : Undo Cpu). record { cpu = u.cpu; next = u.count; held = u.first }) e)

-- next slot in the place of the bytes written
pub writes : (c : Cpu) (next held : ℕ) (r : List ℕ) → r ≡ record_with c 0 (low_at 16 held) 0 → set r 25 (low_at 16 next) ≡ given_but c next held
unfolding record_with
writes c next held r e = ap (λ (y : List ℕ). set y 25 (low_at 16 next)) e

-- and then the protected addresses
pub ends : (c : Cpu) (next held : ℕ) (r : List ℕ) → r ≡ given_but c next held → let p = c.board.stretch in set (set r 30 p.first) 31 p.last ≡ given c next held
unfolding given
ends c next held r e = let p = c.board.stretch in ap (λ (y : List ℕ). set (set y 30 p.first) 31 p.last) e

twice : (x : Bool) → not (not x) ≡ x
twice true = refl
twice false = refl

-- a run's steps and cause
told : (s b : ℕ) (t : Stop) (w : W) → packed 0 s b (cause_number (cause_is t)) ≡ result_of (answers 0 s b (cause_is t) w)
told s b Halted w = refl
told s b Budget w = refl

pub ran : (x : ℕ) (w : W) (a : Answer) (r : Run) → a ≡ Ran r → x ≡ packed 0 r.steps r.bus (cause_number (cause_is r.stop)) → x ≡ result_of (said_by a w)
ran x w a r e p = rw (e, p) (told r.steps r.bus r.stop w)

-- every case of an answer leaves the world that it is given
same-world : (a : Answer) (w : W) → (said_by a w).world ≡ w
same-world Accepted w = refl
same-world (Stepped bus) w = refl
same-world (Ran r) w = refl
same-world (Refused why) w = refl

-- a reply, where it is refused and where it is accepted
module _ (w : List ℕ) (r : Reply) (ram ws : List ℕ) (x : ℕ) (b : Bool) (e : x ≡ result_of (replied r ram ws)) (t : b ≡ not (eqb (replied r ram ws).number 0)) where
  abbrev leaves_at : W → Crossed
  leaves_at u =
      leaves x (cond (not b) (given u.box.cpu u.journal.next u.journal.held) w) u.box.ram u.journal.words

  leaves_all : crossed w (replied r ram ws) ≡ leaves_at (world_of r.machine ram ws)
  unfolding crossed
  leaves_all = rw (e, t, twice (eqb (replied r ram ws).number 0))
      (ap (λ (u : W). leaves (result_of (replied r ram ws))
      (cond (eqb (replied r ram ws).number 0) (given u.box.cpu u.journal.next u.journal.held) w) u.box.ram u.journal.words) (same-world
      r.answer (world_of r.machine ram ws)))

  pub kept : b ≡ true → crossed w (replied r ram ws) ≡ leaves x w ram ws
  kept h = leaves_all ∙ rw h

  pub rewritten : (w' : List ℕ) → b ≡ false → w' ≡ given r.machine.cpu r.machine.next r.machine.held → crossed w (replied r ram ws) ≡ leaves x w' ram ws
  rewritten w' h g = leaves_all ∙ rw (h, g)

-- words to machine, the call, machine to words
pub crosses : (c : Call Input) (w ram ws : List ℕ) (m : Machine) (r : Reply) (x : ℕ) (w' ram' ws' : List ℕ) → m ≡ taken w
    → Keeps c m ram ws r ram' ws'
    → crossed w (replied r ram' ws') ≡ leaves x w' ram' ws'
    → Crosses c w ram ws x w' ram' ws'
crosses c w ram ws m r x w' ram' ws' em k e = ap (λ (y : Machine). crossed w (answer_of c (world_of y ram ws))) (sym em) ∙ ap (crossed w) k ∙ e
