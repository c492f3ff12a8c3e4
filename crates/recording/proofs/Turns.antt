-- One recorded step from what its parts leave.
use Prim.Native.Nat.{ℕ}
use mathlib.Core.Path.{◌≡◌, refl, sym, ◌∙◌, ap}
use mathlib.Core.Bool.{Bool, true, false, cond}
use mathlib.Core.List.{List}
use native.Mathlib.Omega.{arith}
use borrow.Author.Tests.{eqb-true}
use lib.Dec.{eqb}
use lib.ListN.{length}
use Rattle.word.specs.Memory.{old_bytes}
use Rattle.bus.specs.State.{cpu}
use Rattle.bus.specs.Good.{Changed, none, one, two}
use Rattle.bus.specs.declared.state.Cpu.{Cpu}
use Rattle.bus.specs.declared.state.Board.{Board}
use Rattle.cpu.specs.Step.{effect, step_of}
use Rattle.cpu.specs.Code.{Told, told_of, told_as}
use Rattle.cpu.specs.declared.step.Done.{Done}
use Rattle.cpu.proofs.Touched.{step-changes}
use Rattle.history.specs.Trace.{Box, Effect, undo_of}
use Rattle.history.specs.Ring.{Ring, ring_of, pushed, slots}
use Rattle.history.specs.Code.{three, amended}
use Rattle.history.specs.declared.Place.{Place}
use Rattle.history.proofs.Amending.{amend-pushed}
use Rattle.records.specs.Record.{record_with, record_of}
use Rattle.calls.specs.Inputs.{box}
use Rattle.calls.specs.Calls.{W, went}
use Rattle.calls.proofs.Giving.{recorded}
use Rattle.recording.specs.Code.{standing, noted as noted_in, Turn, turn_of, turn_as}

abbrev at : Box Cpu → Ring → W
at b j = record { box = b; journal = j }

-- words 25 to 27 of a record are what was written
written : (c : Cpu) (n a o : ℕ) → three (record_with c 0 0 0) 25 n a o ≡ record_with c n a o
unfolding record_with
written c n a o = refl

record-words : (c : Cpu) → length (record_with c 0 0 0) ≡ 32
unfolding record_with
record-words c = refl

-- no byte written, no first address
still : {m : List ℕ} {a n : ℕ} {m' : List ℕ} → Changed m a n m' → n ≡ 0 → a ≡ 0
still none e = refl
still (one a x) e = absurd (omega (arith, e))
still (two a x y) e = absurd (omega (arith, e))

-- registers, CSRs, the rest of the state, memory, journal words, next slot and records held
module _ (g k : List ℕ) (b : Board) (m ws : List ℕ) (p : Place) where
  abbrev c : Cpu
  c = cpu g k b

  abbrev j : Ring
  j = ring_of ws p.next p.held

  abbrev w : W
  w = standing c p m ws

  -- a step that writes nothing has the record that was pushed before it
  quiet : (q : Done) (g' k' m' : List ℕ) → told_as g' k' q m' ≡ told_of m (step_of c m) → q.count ≡ 0
      → record_with c 0 0 0 ≡ record_with c q.count q.first q.old
  unfolding old_bytes
  quiet q g' k' m' e z =
      let n : q.count ≡ (step_of c m).count = ap (λ (y : Told). y.step.count) e in
      let f : q.first ≡ (step_of c m).first = ap (λ (y : Told). y.step.first) e in
      let a : q.first ≡ 0 = f ∙ still (step-changes c m) (sym n ∙ z) in
      let o : q.old ≡ 0 = ap (λ (y : Told). y.old) e ∙ rw (sym n ∙ z) in
      rw (z, a, o)

  -- the record pushed before a step, and what the step wrote put in after it: the step's record pushed
  noted : (q : Done) (g' k' m' r ws₁ ws' : List ℕ) (next' held' : ℕ)
      → told_as g' k' q m' ≡ told_of m (step_of c m)
      → r ≡ record_with c 0 0 0
      → ring_of ws₁ next' held' ≡ pushed (slots ws) r j
      → ws' ≡ noted_in ws₁ p.next q.count q.first q.old
      → ring_of ws' next' held' ≡ pushed (slots ws) (record_with c q.count q.first q.old) j
  noted q g' k' m' r ws₁ ws' next' held' e er ep ea = go (eqb q.count 0) refl ea
    where
      go : (t : Bool) → eqb q.count 0 ≡ t → ws' ≡ cond t ws₁ (amended ws₁ p.next 25 q.count q.first q.old)
          → ring_of ws' next' held' ≡ pushed (slots ws) (record_with c q.count q.first q.old) j
      go true z x =
          ap (λ (y : List ℕ). ring_of y next' held') x ∙ ep
          ∙ ap (λ (y : List ℕ). pushed (slots ws) y j) (er ∙ quiet q g' k' m' e (eqb-true _ _ z))
      go false z x =
          ap (λ (y : List ℕ). ring_of y next' held') x
          ∙ amend-pushed r ws p.next p.held 25 q.count q.first q.old (ap (λ (y : List ℕ). length y) er ∙ record-words c) (omega arith) ws₁
          next' held' ep
          ∙ ap (λ (y : List ℕ). pushed (slots ws) y j)
          (ap (λ (y : List ℕ). three y 25 q.count q.first q.old) er ∙ written c q.count q.first q.old)

  abbrev x : Effect Cpu
  x = step_of c m

  -- the world after a step, from what its parts leave
  goes_on : (q : Done) (g' k' m' : List ℕ) (j' : Ring)
      → told_as g' k' q m' ≡ told_of m x
      → j' ≡ pushed (slots ws) (record_with c q.count q.first q.old) j
      → at (box (cpu g' k' q.board) m') j' ≡ went w x
  goes_on q g' k' m' j' e ej =
      let s : effect (cpu g' k' q.board) m' q.count q.first q.bus ≡ x = ap (λ (y : Told). y.step) e in
      let o : q.old ≡ old_bytes m x.count x.first = ap (λ (y : Told). y.old) e in
      let r : record_with c q.count q.first q.old ≡ record_of (undo_of (box c m) x.count x.first) =
      ap (λ (y : ℕ). record_with c q.count q.first y) o
      ∙ ap (λ (y : Effect Cpu). record_with c y.count y.first (old_bytes m x.count x.first)) s
      ∙ recorded c m (step-changes c m)
      in
      ap (λ (y : Effect Cpu). at y.box j') s ∙ ap (at x.box) (ej ∙ ap (λ (y : List ℕ). pushed (slots ws) y j) r)

  abbrev tells : W → Effect Cpu → Turn
  tells y z = record { world = y; count = z.count; first = z.first; bus = z.bus }

  pub turned : (q : Done) (p' : Place) (g' k' m' r ws₁ ws' : List ℕ)
      → told_as g' k' q m' ≡ told_of m x
      → r ≡ record_with c 0 0 0
      → ring_of ws₁ p'.next p'.held ≡ pushed (slots ws) r j
      → ws' ≡ noted_in ws₁ p.next q.count q.first q.old
      → turn_as (record { board = q.board; place = p'; count = q.count; first = q.first; bus = q.bus }) g' k' m' ws' ≡ turn_of w
  turned q p' g' k' m' r ws₁ ws' e er ep ea =
      let s : effect (cpu g' k' q.board) m' q.count q.first q.bus ≡ x = ap (λ (y : Told). y.step) e in
      let j' = noted q g' k' m' r ws₁ ws' p'.next p'.held e er ep ea in
      ap (λ (y : W). tells y (effect (cpu g' k' q.board) m' q.count q.first q.bus))
      (goes_on q g' k' m' (ring_of ws' p'.next p'.held) e j')
      ∙ ap (tells (went w x)) s
