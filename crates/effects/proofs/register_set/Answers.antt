use Rattle.calls.specs.Inputs.{register_set}
use Rattle.effects.proofs.register_set.Goals as goal

pub returns : goal.returns
unfolding register_set
returns c = simp (c.pick.ensures, c.both-revived.ensures, c.bit.ensures, c.written-regs.ensures)
