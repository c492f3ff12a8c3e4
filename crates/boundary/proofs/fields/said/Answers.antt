use Rattle.boundary.proofs.Crossing.{ran}
use Rattle.boundary.proofs.fields.said.Goals as goal

pub returns-in-Accepted : goal.returns-in-Accepted
returns-in-Accepted c w = simp (c.pack.ensures, c.in-Accepted.is)

pub returns-in-Stepped : goal.returns-in-Stepped
returns-in-Stepped c w = simp (c.pack-in-Stepped.ensures, c.in-Stepped.is)

pub returns-in-Ran : goal.returns-in-Ran
returns-in-Ran c w = ran _ w _ _ c.in-Ran.is c.ran.ensures

pub returns-in-Refused : goal.returns-in-Refused
returns-in-Refused c w = simp (c.pack-in-Refused.ensures, c.from.ensures, c.in-Refused.is)
