use mathlib.Core.Path.{sym, ap, ◌∙◌}
use Prim.Native.Nat.{◌+◌, ◌*◌}
use native.Mathlib.Omega.{arith}
use Rattle.text.specs.Answer.{listed_as}
use Rattle.text.proofs.Returning.{Seen, seen, unlisted, unroomy, sixteen}
use Rattle.image.proofs.Writing.{pair-long}
use Rattle.image.proofs.count.pair_length.Goals as goal
use Rattle.image.proofs.count.pair_length.Goals.{In-Ok}

-- what the answer `Ok(n)` tells of the word
seen-n : (c : In-Ok) → let a = c.args in Seen (a.b + 256 * a.c) c.in-Ok.n
seen-n c = seen _ 16 _ (ap listed_as (sym c.in-Ok.is) ∙ c.list_in.ensures.result_value)

pub overflow_add-result : goal.overflow_add-result
overflow_add-result c = let s = seen-n (goal.at.overflow_add-result c).In-Ok in
    let a = c.args in
    omega (arith, s.whole, sixteen (a.b + 256 * a.c) (omega arith))

pub returns-in-Ok : goal.returns-in-Ok
returns-in-Ok c = let s = seen-n (goal.at.returns-in-Ok c).In-Ok in
    let a = c.args in
    let l = rw s.legal at (pair-long 0 a.b a.c) in
    omega (arith, s.whole)

pub returns-in-Err-Reason2 : goal.returns-in-Err-Reason2
returns-in-Err-Reason2 c = let a = c.args in
    let u = unlisted (a.b + 256 * a.c) 16 (rw c.in-Err-Reason2.field-0-is at (ap listed_as (sym c.in-Err-Reason2.is) ∙ c.list_in.ensures.result_value)) in
    omega (arith, rw u at (pair-long 0 a.b a.c))

pub returns-in-Err-NoRoom : goal.returns-in-Err-NoRoom
returns-in-Err-NoRoom c = let a = c.args in
    let r = unroomy (a.b + 256 * a.c) 16 (rw c.in-Err-NoRoom.field-0-is at (ap listed_as (sym c.in-Err-NoRoom.is) ∙ c.list_in.ensures.result_value)) in
    absurd (omega (arith, r.1, sixteen (a.b + 256 * a.c) (omega arith)))
