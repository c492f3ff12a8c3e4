-- From what the parts of a step back leave to what it answers.
use Prim.Native.Nat.{ℕ, zero, suc, ◌≤◌, ◌<◌}
use mathlib.Core.Path.{◌≡◌, refl, sym, ◌∙◌, ap}
use mathlib.Core.Bool.{Bool, true, false, ◌&&◌, ◌||◌}
use mathlib.Core.List.{List}
use mathlib.Core.Option.{Option, some, none}
use mathlib.Core.Logic.{◌⊎◌, inl, inr, ⊎_elim}
use native.Mathlib.Omega.{arith}
use borrow.Author.Tests.{lt-ltb, leb-true, ltb-true, eqb-true}
use lib.Dec.{leb, ltb, eqb}
use lib.ListN.{length}
use Rattle.bus.specs.State.{word}
use Rattle.bus.specs.declared.state.Cpu.{Cpu}
use Rattle.bus.specs.declared.state.Stretch.{Stretch}
use Rattle.history.specs.Undo.{restored}
use Rattle.history.specs.Trace.{Box, Undo, no_run, answers, back, backed}
use Rattle.history.specs.Ring.{Ring, ring_of, slot_before, slot_words, popped, popped_at, slots}
use Rattle.history.specs.Code.{readable, newest_of}
use Rattle.history.specs.declared.Place.{Place}
use Rattle.history.specs.declared.TakenBack.{TakenBack}
use Rattle.history.proofs.RingLaws.{before-below}
use Rattle.records.specs.Record.{undo_from, sound, decoded}
use Rattle.records.specs.Code.{undo_as}
use Rattle.records.specs.declared.Before.{Before}
use Rattle.calls.specs.Inputs.{box, machine}
use Rattle.calls.specs.Calls.{W, ram_fits, journal_fits, state_fits, first_of, check_of, journal_of, plain_of, world_of, replied}
use Rattle.calls.specs.Code.{refuse}
use Rattle.calls.specs.declared.state.Machine.{Machine as MachineT}
use Rattle.calls.specs.declared.state.Refusal.TheVariants as Refusal
use Rattle.calls.specs.declared.state.Reply.{Reply}

abbrev at : Box Cpu → Ring → W
at b j = record { box = b; journal = j }

abbrev place_in : MachineT → Place
place_in m = record { next = m.next; held = m.held }

-- what the checks say of the journal's counts, where they pass
clash : {A : Type 0} → false ≡ true → A
clash e = let z : ◌≡◌ {A = ℕ} 0 1 = cc in absurd (omega arith)

third : (a b c : Bool) → first_of a b c ≡ 0 → c ≡ true
third true true true e = refl
third true true false e = absurd (omega (arith, e))
third true false c e = absurd (omega (arith, e))
third false b c e = absurd (omega (arith, e))

left-true : (a b : Bool) → (a && b) ≡ true → a ≡ true
left-true true b e = refl
left-true false b e = e

right-true : (a b : Bool) → (a && b) ≡ true → b ≡ true
right-true true b e = e
right-true false b e = clash e

either_true : (a b : Bool) → (a || b) ≡ true → (a ≡ true) ⊎ (b ≡ true)
either_true true b e = inl refl
either_true false b e = inr e

pub record Sits (n next held : ℕ) : Type 0 where
  pub held_in : held ≤ n
  pub next-in : (next < n) ⊎ ((n ≡ 0) × (next ≡ 0))

pub sits : (w : W) → check_of w ≡ 0 → Sits (slots w.journal.words) w.journal.next w.journal.held
unfolding check_of
sits w z =
    let r = w.journal in
    let n = slots r.words in
    let t = third (ram_fits (length w.box.ram)) (journal_fits (length r.words)) (state_fits n w.box.cpu r.next r.held) z in
    let u = right-true (leb (word w.box.cpu.csrs 0) 511) _ t in
    record {
      held_in = leb-true r.held n (left-true (leb r.held n) _ u);
      next-in = ⊎_elim (λ a. inl (ltb-true r.next n a))
          (λ a. inr (eqb-true n 0 (left-true (eqb n 0) (eqb r.next 0) a), eqb-true r.next 0 (right-true (eqb n 0) (eqb r.next 0) a)))
          (either_true (ltb r.next n) _ (right-true (leb r.held n) _ u));
    }

-- where a record is held, the newest one's slot is a slot
pub newest-in : (n next held : ℕ) → Sits n next held → 0 < held → slot_before n next < n
newest-in n next held s h = ⊎_elim (λ a. before-below n next a) (λ a. absurd (omega (arith, a.0, s.held_in))) s.next-in

-- a step back, from what its parts leave
module _ (m : MachineT) (ram ws : List ℕ) where
  abbrev v : W
  v = world_of m ram ws

  abbrev p : Stretch
  p = m.cpu.board.stretch

  pub none-held : (r : Reply) → m.held ≡ 0 → r ≡ refuse m Refusal.NoRecord → plain_of back v ≡ replied r ram ws
  none-held r h s =
      ap (λ (x : ℕ). backed machine (journal_of p) v (popped_at (decoded p) (slot_before (slots ws) m.next) x (ring_of ws m.next m.held))) h
      ∙ ap (λ (x : Reply). replied x ram ws) (sym s)

  -- what the journal hands back, where a record is held
  pops : (n : ℕ) (k : ℕ) (x : Option (Undo Cpu)) (j : Ring) → 0 < n → decoded p (slot_words j.words k) ≡ x → popped_at (decoded p) k n j ≡ popped k x j
  pops zero k x j h e = absurd (omega arith)
  pops (suc n) k x j h e = ap (λ (y : Option (Undo Cpu)). popped k y j) e

  -- the newest record, as the code has it
  module _ (q : TakenBack) (e : q ≡ newest_of ws (place_in m)) (l : slot_before (slots ws) m.next < slots ws) (h : 0 < m.held) where
    abbrev k : ℕ
    k = slot_before (slots ws) m.next

    here : q.words ≡ slot_words ws k
    unfolding readable
    here = ap (λ (y : TakenBack). y.words) e ∙ rw (lt-ltb k (slots ws) l)

    popping : (x : Option (Undo Cpu)) → decoded p q.words ≡ x
        → plain_of back v ≡ backed machine (journal_of p) v (popped k x (ring_of ws m.next m.held))
    popping x d =
        ap (backed machine (journal_of p) v) (pops m.held k x (ring_of ws m.next m.held) h (ap (decoded p) (sym here) ∙ d))

    pub unsound : (r : Reply) (t : Bool) → t ≡ sound q.words → t ≡ false → r ≡ refuse m Refusal.BadRecord → plain_of back v ≡ replied r ram ws
    unfolding decoded
    unsound r t f z s = popping none (rw (sym f ∙ z)) ∙ ap (λ (x : Reply). replied x ram ws) (sym s)

    pub restores : (t : Bool) (b : Before) (ram' : List ℕ) → t ≡ sound q.words → t ≡ true → undo_from p q.words ≡ undo_as b
        → ram' ≡ restored b.count b.first b.low b.high ram
        → plain_of back v ≡ answers 0 0 0 no_run (at (box b.cpu ram') (ring_of ws q.place.next q.place.held))
    unfolding decoded
    restores t b ram' f z d r =
        popping (some (undo_as b)) (rw (sym f ∙ z, d)) ∙ rw r
        (ap (λ (y : TakenBack). answers 0 0 0 no_run (at (box b.cpu (restored b.count b.first b.low b.high ram)) (ring_of ws y.place.next y.place.held))) (sym e))
