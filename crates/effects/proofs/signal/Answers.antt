use Rattle.calls.specs.Inputs.{signalled}
use Rattle.effects.proofs.signal.Goals as goal

pub returns : goal.returns
unfolding signalled
returns c = simp (c.join.ensures, c.low.ensures, c.or.ensures)
