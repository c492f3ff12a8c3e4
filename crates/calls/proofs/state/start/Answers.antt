use Rattle.calls.proofs.state.start.Goals as goal

pub returns : goal.returns
returns c = rw c.reset-cpu.ensures
