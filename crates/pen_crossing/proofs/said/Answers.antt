use mathlib.Core.Path.{◌∙◌, ap}
use Rattle.boundary.specs.Boundary.{packed}
use Rattle.pen_crossing.proofs.said.Goals as goal

pub returns : goal.returns
returns c = c.pack.ensures ∙ ap (packed c.args.number c.args.r0 c.args.bus) c.cause.ensures
