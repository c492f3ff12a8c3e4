use Rattle.pens.proofs.runs.matched.Goals as goal

pub returns : goal.returns
returns c = c.run_unmarked.ensures
