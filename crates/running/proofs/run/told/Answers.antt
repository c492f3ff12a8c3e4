use Rattle.running.proofs.run.told.Goals as goal

pub returns : goal.returns
returns c = rw c.stop_of.ensures
