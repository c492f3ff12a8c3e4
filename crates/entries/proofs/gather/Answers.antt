use Rattle.std.proofs.Common.{List, sym, ap, ◌∙◌, get_or, fold}
use Rattle.std.proofs.lemmas.List.{take_all}
use Rattle.std.proofs.lemmas.List.Sums.{fold_more}
use Rattle.entries.specs.Entries.{entry}
use Rattle.entries.specs.Code.{no_points, added, added_all}
use Rattle.entries.specs.declared.Entry.{Entry}
use Rattle.entries.specs.declared.Points.{Points}
use Rattle.entries.proofs.gather.Goals as goal

pub loop-e-init : goal.loop-e-init
loop-e-init c = c.none-p.ensures

pub loop-e-preserved : goal.loop-e-preserved
loop-e-preserved c =
    let l = c.args.list.now in let i = c.loop-e.e-index in let past = entry 0 0 0 in
    c.add-p.ensures ∙ ap (λ (p : Points). added p (get_or l i past)) c.loop-e.invariant
    ∙ sym (fold_more added no_points l i past c.loop-e-test.true)

pub returns : goal.returns
unfolding added_all
returns c = c.loop-e.invariant ∙ ap (λ (l : List Entry). fold added no_points l) (take_all c.loop-e.e-index c.args.list.now c.loop-e-test.false)
