use Rattle.std.proofs.Common.{◌<◌, ◌∙◌, sym, ap, length, arith}
use Rattle.std.proofs.lemmas.List.{length-take}
use Rattle.entries.specs.Entries.{entry}
use Rattle.stops.specs.Stops.{kept}
use Rattle.stops.proofs.Rows.{stays-next}
use Rattle.stops.proofs.list.without.Goals as goal

pub loop-e-init : goal.loop-e-init
unfolding kept
loop-e-init c = (omega arith, c.none-after.ensures.0)

pub loop-e-preserved : goal.loop-e-preserved
loop-e-preserved c =
    let s = c.args.s in let u = c.unless_gone-after.ensures in let v = c.loop-e.invariant in let t = c.loop-e-test.true in
    let room : c.loop-e.after.count < 64 = omega (arith, v.0, t, ap length c.list-e-items.ensures, length-take s.count s.entries) in
    (omega (arith, u.count_bound, v.0), u.result_value room ∙ rw v.1 (sym (stays-next c.args.g c.loop-e.e-index c.list-e-items.result.now (entry 0 0 0) t)))
