use Rattle.isa.proofs.condition.holds.Goals as goal

pub returns : goal.returns
returns c = rw (c.alike.ensures, c.bit-2.ensures, c.bit.ensures)
