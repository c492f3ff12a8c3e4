use Rattle.std.proofs.Common.{arith}
use Rattle.image.proofs.Writing.{last-room, pair_put}
use Rattle.image.proofs.lines.put_lines.Goals as goal

pub loop-rest-preserved : goal.loop-rest-preserved
loop-rest-preserved c =
    let a = c.args in
    pair_put a.out.now a.a a.image.now _ _ _ _ c.loop-rest.invariant _ _ c.in-len2-up.len_at_least c.put_pair-at.ensures.0 c.put_pair-at.ensures.1 c.put_pair-at.auto.out

pub put_last-at-requires : goal.put_last-at-requires
put_last-at-requires c =
    let a = c.args in
    let e = last-room a.out.now a.a a.image.now _ _ _ _ c.loop-rest.invariant (omega (arith, c.in-len1.len_at_least, c.in-len1.len_below)) in
    omega (arith, e, c.loop-rest.invariant.kept, c.requires.1)
