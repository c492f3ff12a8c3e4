use Rattle.crossing.proofs.said.Goals as goal

pub returns : goal.returns
returns c = rw (c.pack.ensures, c.cause_and_place.ensures)
