use mathlib.Core.Path.{refl}
use Rattle.boundary.specs.Boundary.{packed}
use Rattle.boundary.proofs.fields.pack.Goals as goal

pub returns : goal.returns
unfolding packed
returns c = refl
