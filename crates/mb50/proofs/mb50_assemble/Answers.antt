use Rattle.boundary.specs.Boundary.{assembled}
use mathlib.Core.Path.{◌∙◌, ap}
use Rattle.mb50.proofs.mb50_assemble.Goals as goal

pub returns : goal.returns
returns c = c.assembled.ensures ∙ ap assembled c.assemble.ensures
