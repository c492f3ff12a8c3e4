use mathlib.Core.Path.{sym, ◌∙◌}
use native.Mathlib.Omega.{arith}
use borrow.Author.Tests.{ltb-true, ltb-false}
use lib.ListN.{length}
use Prim.Native.Nat.{◌≤◌}
use Rattle.image.specs.Image.{lines_of}
use Rattle.image.proofs.Writing.{lines_long}
use Rattle.text.proofs.Fitting.{fitting, unfitting}
use Rattle.image.proofs.put_image.Goals as goal
use Rattle.image.proofs.put_image.Goals.{Else-is_short}

-- where it is not short, there is room for the lines
room : (c : Else-is_short) → let a = c.args in length (lines_of a.a a.image.now) ≤ length a.out.now
room c =
    let a = c.args in
    let s = a.image.now in
    omega (arith, ltb-false (length a.out.now) (length (lines_of 0 s)) (sym c.is_short.ensures ∙ c.if-is_short.false), lines_long a.a 0 s)

pub returns-then-is_short : goal.returns-then-is_short
returns-then-is_short c = let a = c.args in
    let s = a.image.now in
    let l = ltb-true (length a.out.now) (length (lines_of 0 s)) (sym c.is_short.ensures ∙ c.if-is_short.true) in
    let both = unfitting (lines_of a.a s) a.out.now (omega (arith, lines_long a.a 0 s)) in record { result_value = both.0; out_after = both.1 }

pub returns : goal.returns
returns c = let a = c.args in
    let both = fitting (lines_of a.a a.image.now) a.out.now _ _ (room (goal.at.returns c).Else-is_short) c.put_lines.ensures.0 c.put_lines.ensures.1 in record { result_value = both.0; out_after = both.1 }

pub put_lines-requires : goal.put_lines-requires
put_lines-requires c = (c.table-table.ensures, room (goal.at.put_lines-requires c).Else-is_short, c.requires)
