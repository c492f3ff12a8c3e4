use Rattle.std.proofs.Common.{◌<◌, ap, ◌∙◌, arith, length, get_or, map}
use lib.ListN.{set}
use Rattle.std.proofs.lemmas.List.{take_all, drop_all, append-nil, get_or_default}
use Rattle.std.proofs.lemmas.List.Edits.{map_over_more}
use Rattle.entries.specs.Entries.{entry, counted, marked}
use Rattle.entries.proofs.mark.Goals as goal

pub loop-e-preserved : goal.loop-e-preserved
loop-e-preserved c =
    let l = c.args.list.now in let v = c.loop-e in let x = c.args.x in
    let e = get_or v.e-items v.e-index (entry 0 0 0) in
    let within : v.e-index < length v.e-items = omega (arith, c.loop-e-test.true, v.auto.e-items) in
    ap (set v.e-items v.e-index) c.counted.ensures
    ∙ map_over_more (counted x) l v.e-items v.e-index e c.loop-e-test.true v.invariant (get_or_default v.e-items v.e-index (entry 0 0 0) e within)

pub returns : goal.returns
unfolding marked
returns c =
    let l = c.args.list.now in let i = c.loop-e.e-index in
    c.loop-e.invariant ∙ rw (take_all i l c.loop-e-test.false, drop_all i l c.loop-e-test.false) (append-nil (map (counted c.args.x) l))
