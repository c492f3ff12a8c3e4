use Rattle.std.proofs.Common.{arith}
use Rattle.image.proofs.Writing.{lines-room, pair_end, pair-counted, last-counted}
use Rattle.image.proofs.count.lines_length.Goals as goal

pub overflow_add-n : goal.overflow_add-n
overflow_add-n c =
    let s = c.args.image.now in
    let e = pair_end s _ _ c.loop-rest.invariant c.in-len2-up.len_at_least in
    omega (arith, e, lines-room 0 s (λ i. omega (arith, c.type_inv.image i)), c.requires.1, c.pair_length-n.ensures)

pub loop-rest-preserved : goal.loop-rest-preserved
loop-rest-preserved c = pair-counted c.args.image.now _ _ c.loop-rest.invariant _ c.in-len2-up.len_at_least c.pair_length-n.ensures

pub overflow_add-result : goal.overflow_add-result
overflow_add-result c =
    let s = c.args.image.now in
    let e = last-counted s _ _ c.loop-rest.invariant (omega (arith, c.in-len1.len_at_least, c.in-len1.len_below)) in
    omega (arith, e, lines-room 0 s (λ i. omega (arith, c.type_inv.image i)), c.requires.1)

pub returns-in-len1 : goal.returns-in-len1
returns-in-len1 c = last-counted c.args.image.now _ _ c.loop-rest.invariant (omega (arith, c.in-len1.len_at_least, c.in-len1.len_below))
