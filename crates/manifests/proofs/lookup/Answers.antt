use Rattle.manifests.specs.Manifests.{name_of}
use Rattle.manifests.proofs.lookup.Goals as goal

pub returns-in_default : goal.returns-in_default
unfolding name_of
returns-in_default c = rw c.in_default.is

pub returns-in-Today : goal.returns-in-Today
unfolding name_of
returns-in-Today c = rw (c.in-Some.is, c.in-Today.is) c.of.ensures

pub returns-in-LastGood : goal.returns-in-LastGood
unfolding name_of
returns-in-LastGood c = rw (c.in-Some.is, c.in-LastGood.is) c.of-in-LastGood.ensures
