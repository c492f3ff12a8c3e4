-- Words put into a slot after its record was pushed give what the amended record gives when pushed.
use Prim.Native.Nat.{ℕ, ◌+◌, ◌*◌, ◌≤◌, ◌<◌, min}
use mathlib.Core.Path.{◌≡◌, ◌∙◌, sym, ap}
use mathlib.Core.List.{List, [], ◌∷◌, ◌++◌}
use native.Mathlib.Omega.{arith}
use native.Mathlib.Nat.{zero-add, suc-add}
use native.Mathlib.Decide.{dec_lt}
use borrow.Author.Tests.{lt-ltb, le-ltb}
use lib.ListN.{length, take, drop, set, length-set}
use lib.Seq.{paste, set-append_left, take-set-lt, length-take-le, length_paste_head}
use Rattle.history.specs.Ring.{Ring, ring_of, pushed, slot_after, slots}
use Rattle.history.specs.Code.{three, amended}
use Rattle.history.proofs.Pushing.{push-in, push-out}
use Rattle.history.proofs.RingLaws.{length-here}

pub amend-in : (ws : List ℕ) (k i x y z : ℕ) → k < slots ws → i < 30 → amended ws k i x y z ≡ three ws (k * 32 + i) x y z
unfolding amended
amend-in ws k i x y z h l = simp (lt-ltb k (slots ws) h, lt-ltb i 30 l)

pub amend-no-slot : (ws : List ℕ) (k i x y z : ℕ) → slots ws ≤ k → amended ws k i x y z ≡ ws
unfolding amended
amend-no-slot ws k i x y z h = simp (le-ltb k (slots ws) h)

pub amend-past : (ws : List ℕ) (k i x y z : ℕ) → k < slots ws → 30 ≤ i → amended ws k i x y z ≡ ws
unfolding amended
amend-past ws k i x y z h l = simp (lt-ltb k (slots ws) h, le-ltb i 30 l)

-- a store past the seam is a store into what comes after it
set_after : (xs ys : List ℕ) (i x : ℕ) → set (xs ++ ys) (length xs + i) x ≡ xs ++ set ys i x
set_after [] ys i x = ap (λ (k : ℕ). set ys k x) (zero-add i)
set_after (a ∷ xs) ys i x = ap (λ (k : ℕ). set (a ∷ (xs ++ ys)) k x) (suc-add (length xs) i) ∙ ap (λ (l : List ℕ). a ∷ l) (set_after xs ys i x)

-- ---- words put into a pasted record are the record with those words, pasted
module _ (d : List ℕ) (at : ℕ) (fits : at + 32 ≤ length d) where
  set-pasted : (r : List ℕ) (i x : ℕ) → length r ≡ 32 → i < 32 → set (paste d at r 32) (at + i) x ≡ paste d at (set r i x) 32
  set-pasted r i x size l =
      let e : at + i ≡ length (take at d) + i = ap (λ (k : ℕ). k + i) (sym (length-take-le at d (omega arith))) in
      set-append_left (take at d ++ take 32 r) (drop (at + 32) d) (at + i) x (omega (arith, length_paste_head d at r 32 (omega arith) (omega arith)))
      ∙ ap (λ (t : List ℕ). t ++ drop (at + 32) d)
      (ap (λ (k : ℕ). set (take at d ++ take 32 r) k x) e ∙ set_after (take at d) (take 32 r) i x
      ∙ ap (λ (t : List ℕ). take at d ++ t) (sym (take-set-lt 32 r i x l)))

  three-pasted :
      (r : List ℕ) (i x y z : ℕ) → length r ≡ 32 → i < 30 → three (paste d at r 32) (at + i) x y z ≡ paste d at (three r i x y z) 32
  three-pasted r i x y z size l =
      let e : length (set r i x) ≡ 32 = length-set r i x ∙ size in
      let f : length (set (set r i x) (i + 1) y) ≡ 32 = length-set (set r i x) (i + 1) y ∙ e in
      let p : at + i + 1 ≡ at + (i + 1) = omega arith in
      let q : at + i + 2 ≡ at + (i + 2) = omega arith in
      rw (p, q, set-pasted r i x size (omega arith), set-pasted (set r i x) (i + 1) y e (omega arith))
      (set-pasted (set (set r i x) (i + 1) y) (i + 2) z f (omega arith))

-- ---- a record pushed and its slot then amended: the amended record pushed
module _ (r ws : List ℕ) (next held i x y z : ℕ) (size : length r ≡ 32) (within : i < 30) where
  abbrev before : Ring
  before = ring_of ws next held

  amend-here : next < slots ws → amended (paste ws (next * 32) r 32) next i x y z ≡ paste ws (next * 32) (three r i x y z) 32
  amend-here h =
      let fits : next * 32 + 32 ≤ length ws = omega arith in
      let e : length (paste ws (next * 32) r 32) ≡ length ws = length-here ws (next * 32) r fits size in
      amend-in (paste ws (next * 32) r 32) next i x y z (omega (arith, e)) within ∙ three-pasted ws (next * 32) fits r i x y z size within

  pub amend-pushed : (ws' : List ℕ) (next' held' : ℕ) → ring_of ws' next' held' ≡ pushed (slots ws) r before
      → ring_of (amended ws' next i x y z) next' held' ≡ pushed (slots ws) (three r i x y z) before
  amend-pushed ws' next' held' e = go (dec_lt next (slots ws))
    where
      again : (j : Ring) → ring_of ws' next' held' ≡ j → ring_of (amended ws' next i x y z) next' held' ≡ ring_of (amended j.words next i x y z) j.next j.held
      again j f = ap (λ (o : Ring). ring_of (amended o.words next i x y z) o.next o.held) f

      go : Dec (next < slots ws) → ring_of (amended ws' next i x y z) next' held' ≡ pushed (slots ws) (three r i x y z) before
      go (yes h) =
          again _ (e ∙ push-in (slots ws) r before h)
          ∙ ap (λ (l : List ℕ). ring_of l (slot_after (slots ws) next) (min (slots ws) (held + 1))) (amend-here h)
          ∙ sym (push-in (slots ws) (three r i x y z) before h)
      go (no h) =
          let l : slots ws ≤ next = omega (arith, h) in
          again _ (e ∙ push-out (slots ws) r before l) ∙ ap (λ (l : List ℕ). ring_of l next held) (amend-no-slot ws next i x y z l)
          ∙ sym (push-out (slots ws) (three r i x y z) before l)
