use mathlib.Core.Path.{refl}
use Rattle.boundary.proofs.words.stretch.Goals as goal

pub returns : goal.returns
returns c = refl
