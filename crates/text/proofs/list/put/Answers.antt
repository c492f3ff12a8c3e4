use mathlib.Core.Path.{◌≡◌, refl, sym, ap, ◌∙◌}
use mathlib.Core.List.{List, [], ◌∷◌}
use Prim.Native.Nat.{ℕ, ◌+◌, ◌-◌, ◌<◌}
use native.Mathlib.Omega.{arith}
use lib.ListN.{length, length-set}
use lib.Seq.{sets}
use Rattle.text.specs.Code.{digits, key_text}
use Rattle.text.proofs.KeyTexts.{digits_more, digits-left, put_step}
use Rattle.text.proofs.list.put.Goals as goal

pub loop-i-init : goal.loop-i-init
unfolding key_text
loop-i-init c =
    let e : 8 + c.args.at - c.args.at ≡ 8 = omega arith in
    (rw e refl, rw e refl, refl)

pub loop-i-preserved : goal.loop-i-preserved
loop-i-preserved c = let v = c.loop-i in
    let k = 8 + c.args.at - v.i in
    let e : 8 + c.args.at - (v.i + 1) ≡ k - 1 = omega arith in
    let some : 0 < length (digits k v.rest) = omega (arith, v.invariant.1, c.loop-i-test.true, c.width.ensures) in
    let left = digits-left k v.rest some in
    let m = ap length (digits_more k v.rest left.0 left.1) in
    let s = put_step v.out v.i k v.rest left.0 left.1 in (
      rw e (s ∙ v.invariant.0),
      rw e (omega (arith, m, v.invariant.1)),
      simp length-set v.invariant.2,
    )

none-left : (l : List ℕ) → length l ≡ 0 → l ≡ []
none-left [] e = refl
none-left (x ∷ l) e = absurd (omega (arith, e))

pub returns : goal.returns
returns c = let v = c.loop-i in
    let d = digits (8 + c.args.at - v.i) v.rest in
    let n : d ≡ [] = none-left d (omega (arith, v.invariant.1, c.loop-i-test.false, c.width.ensures)) in
    (omega (arith, c.width.ensures), ap (sets v.out v.i) (sym n) ∙ v.invariant.0)
