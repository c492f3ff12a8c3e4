-- Demand 3 over the C boundary with pens among the calls: whatever is called, the rules play it, and the words mean what they leave.
use Prim.Native.Nat.{ℕ}
use mathlib.Core.Path.{◌≡◌, refl, sym, ◌∙◌, ap, subst}
use mathlib.Core.List.{List, [], ◌∷◌}
use native.Mathlib.Omega.{arith}
use Rattle.bus.specs.State.{reset}
use Rattle.bus.specs.declared.state.Stretch.{Stretch}
use Rattle.history.specs.Trace.{back, Left, answer, Exactly}
use Rattle.history.specs.Ring.{slots}
use Rattle.calls.specs.Inputs.{Input, box, machine}
use Rattle.calls.specs.Calls.{W, check_of, world_of, stretch_of, journal_of}
use Rattle.calls.specs.declared.state.Machine.{Machine as MachineT}
use Rattle.boundary.specs.Boundary.{Crossed, crossed}
use Rattle.pens.specs.Pen.{Penned, pen_of}
use Rattle.pen_crossing.specs.Crossing.{pen_result, as_call, crossed_pen, CrossesPen}
use Rattle.exact.specs.Demand3.{Allowed}
use Rattle.exact.specs.Boundary3.{number_in, Owned, meant, Exported, start_owned}
use Rattle.exact.specs.Boundary3 as Calls
use Rattle.exact.proofs.Played.{P, at, starting, plays, Reached, reached}
use Rattle.exact.proofs.Across.{starts, meant-stretch, number-field, world-kept, stood, stood-apt, crosses-one, number_is}
use Rattle.pens_exact.specs.Fields.{PenWhole}
use Rattle.pens_exact.specs.Nights.{named, left_by_pen}
use Rattle.pens_exact.specs.Across.{Crossing, called, pen, owned_after, Promised, Exports, owned, left_by, left_over, owned_at_end, Demand3PensAcross}
use Rattle.pens_exact.proofs.Accepted.{refused-pen}
use Rattle.pens_exact.proofs.Whole.{pen-whole}
use Rattle.pens_exact.proofs.Nights.{Reaches, typed, further, good, pen-on}

-- ---- one pen over the boundary
module _ (line today last setup : List ℕ) (o : Owned) (r : ℕ) (o' : Owned)
    (k : CrossesPen line today last setup o.words o.ram o.journal r o'.words o'.ram o'.journal) where
  abbrev a : Penned
  a = pen_of line today last setup (meant o)

  result-is : r ≡ pen_result a
  unfolding crossed_pen
  result-is = sym (ap (λ (x : Crossed). x.result) k)

  -- bits 0–15 are the pen's number
  pen-number : PenWhole a → number_in r ≡ a.number
  pen-number h = ap number_in result-is ∙ number-field a.number _ _ _ (omega (arith, h.number)) (omega (arith, h.r0))

  -- the words mean what the pen leaves
  pen-world : {s : Stretch} → Reached s a.world → a.world ≡ meant o'
  unfolding crossed_pen crossed
  pen-world {s} h =
      world-kept (as_call a) o o' (ap (λ (x : Crossed). x.words) k) (ap (λ (x : Crossed). x.ram) k) (ap (λ (x : Crossed). x.journal) k) {p = s} h
      (refused-pen line today last setup (meant o))

-- for a machine that was started with the protected addresses s
module _ (s : Stretch) where
  -- ---- call after call
  module _ (m ws : List ℕ) (ok : Allowed m ws) where
    reaches : (w : W) (l : Left Input) → Reaches s m ws ok (at s w l) → Reached s w
    reaches w l p = subst (λ (q : P s). Reached s q.world) p.leads (reached s m ws p.by ok p.apt)

    called_on : (o : Owned) (l : Left Input) (x : Exported) → Calls.Promised o x → Reaches s m ws ok (at s (meant o) l)
        → Reaches s m ws ok (at s (meant (Calls.owned_after x)) (left_by (slots ws) o (called x) l))
    called_on o l x k p =
        let n = slots ws in
        let q = further s m ws ok p (record { by = stood x ∷ []; apt = (stood-apt s o x k, tt); leads = refl }) in
        let e = crosses-one s n o l x (reaches (meant o) l p).good.stretch k (subst (λ (z : P s). Reached s z.world) q.leads (reached s m ws q.by ok q.apt)) in
        subst (Reaches s m ws ok) e q

    pen-over : (line today last setup : List ℕ) (o : Owned) (r : ℕ) (o' : Owned) (l : Left Input)
        → Promised o (pen line today last setup r o') → Reaches s m ws ok (at s (meant o) l)
        → Reaches s m ws ok (at s (meant o') (left_by (slots ws) o (pen line today last setup r o') l))
    pen-over line today last setup o r o' l k p =
        let a = pen_of line today last setup (meant o) in
        let h = pen-whole line today last setup (meant o) (typed (meant o).box (good s m ws ok (meant o) l p).good) k.0 in
        let e = pen-number line today last setup o r o' k.1 h in
        let q = pen-on s m ws ok line today last setup (meant o) a.world (number_in r) a.steps l k.0 p (sym e) refl refl in
        let v = pen-world line today last setup o r o' k.1 {s = s} (reaches a.world _ q) in
        subst (λ (w : W). Reaches s m ws ok (at s w (left_by_pen (slots ws) setup (named line today last) (number_in r) a.steps l))) v q

    one_on : (o : Owned) (l : Left Input) (x : Crossing) → Promised o x → Reaches s m ws ok (at s (meant o) l)
        → Reaches s m ws ok (at s (meant (owned_after x)) (left_by (slots ws) o x l))
    one_on o l (called x) k p = called_on o l x k p
    one_on o l (pen line today last setup r o') k p = pen-over line today last setup o r o' l k p

    all-over : (o : Owned) (l : Left Input) (xs : List Crossing) → Exports o xs → Reaches s m ws ok (at s (meant o) l)
        → Reaches s m ws ok (at s (meant (owned o xs)) (left_over (slots ws) o l xs))
    all-over o l [] ch p = p
    all-over o l (x ∷ xs) ch p = all-over (owned_after x) (left_by (slots ws) o x l) xs ch.1 (one_on o l x ch.0 p)

  pub demand3-pens-across : (m ws : List ℕ) (xs : List Crossing) → Allowed m ws → Exports (start_owned s m ws) xs → Demand3PensAcross s m ws xs
  demand3-pens-across m ws xs ok ch =
      let none : Left Input = record { inputs = []; held = 0 } in
      let o = owned_at_end s m ws xs in
      let e : starting s m ws ≡ at s (meant (start_owned s m ws)) none = ap (λ (x : MachineT). at s (world_of x m ws) none) (sym (starts s)) in
      let p = all-over m ws ok (start_owned s m ws) none xs ch (record { by = []; apt = tt; leads = e }) in
      let x = subst (Exactly machine (journal_of s) check_of (box (reset s) m)) p.leads (plays s m ws ok p.by p.apt) in
      let q : stretch_of (meant o) ≡ s = (reaches m ws ok (meant o) _ p).good.stretch in
      record {
        state = x.state;
        stretch = sym (meant-stretch o) ∙ q;
        held = x.held;
        refused = λ r o' k. number_is back o r o' k tt ∙ ap (λ (z : Stretch). (answer machine (journal_of z) check_of back (meant o)).number) q ∙ x.refused;
      }
