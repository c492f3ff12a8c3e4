use mathlib.Core.Path.{◌≡◌, sym, ◌∙◌}
use mathlib.Core.List.{List, ◌++◌}
use Prim.Native.Nat.{ℕ, ◌+◌, ◌≤◌}
use native.Mathlib.Omega.{arith}
use borrow.Author.Tests.{ltb-true, ltb-false}
use lib.ListN.{length}
use Rattle.text.specs.Code.{key_text}
use Rattle.text.proofs.Fitting.{three, three-length, fitting, unfitting}
use Rattle.text.proofs.list.put3.Goals as goal
use Rattle.text.proofs.list.put3.Goals.{Else-is_short}

-- the text, how long it is, and that there is room for it where it is not short
abbrev text : ℕ → ℕ → ℕ → List ℕ
text m d s = key_text m ++ key_text d ++ key_text s

abbrev size : ℕ → ℕ → ℕ → ℕ
size m d s = length (key_text m) + length (key_text d) + length (key_text s)

long : (m d s : ℕ) → length (text m d s) ≡ size m d s
long m d s = three-length (key_text m) (key_text d) (key_text s)

room : (c : Else-is_short) → size c.args.m c.args.d c.args.s ≤ length c.args.out.now
room c =
    ltb-false (length c.args.out.now) (size c.args.m c.args.d c.args.s) (sym c.is_short.ensures ∙ c.if-is_short.false)

pub returns-then-is_short : goal.returns-then-is_short
returns-then-is_short c = let h = ltb-true (length c.args.out.now) (size c.args.m c.args.d c.args.s) (sym c.is_short.ensures ∙ c.if-is_short.true) in
    let both = unfitting (text c.args.m c.args.d c.args.s) c.args.out.now (omega (arith, long c.args.m c.args.d c.args.s)) in record { result_value = both.0; out_after = both.1 }

pub put-b-requires : goal.put-b-requires
put-b-requires c = omega (arith, room (goal.at.put-b-requires c).Else-is_short, c.put-a.ensures.0)

pub put-c-requires : goal.put-c-requires
put-c-requires c = omega (arith, room (goal.at.put-c-requires c).Else-is_short, c.put-a.ensures.0, c.put-b.ensures.0)

pub returns : goal.returns
returns c = let a = c.args in
    let e = three a.out.now (key_text a.m) (key_text a.d) (key_text a.s) _ _ c.put-a.ensures.0 c.put-b.ensures.0 in
    let both = fitting (text c.args.m c.args.d c.args.s) a.out.now _ _ (omega (arith, room (goal.at.returns c).Else-is_short, long c.args.m c.args.d c.args.s)) (omega (arith, long c.args.m c.args.d c.args.s, c.put-a.ensures.0, c.put-b.ensures.0, c.put-c.ensures.0))
    (c.put-c.ensures.1 ∙ (rw (c.put-b.ensures.1, c.put-a.ensures.1) e)) in record { result_value = both.0; out_after = both.1 }

pub is_short-requires : goal.is_short-requires
is_short-requires c = c.requires

pub put-a-requires : goal.put-a-requires
put-a-requires c = omega (arith, room (goal.at.put-a-requires c).Else-is_short)
