use Rattle.pens.proofs.Joined.{runs}
use Rattle.pens.proofs.runs.run.Goals as goal

pub returns : goal.returns
returns c = let a = c.args in
    runs a.held a.setup.now _ c.word_at-stop.result c.word_at-budget.result c.matched-r.result c.told_of.result _ _ _
    c.word_at-stop.ensures c.word_at-budget.ensures c.matched-r.ensures c.told_of.ensures
