use Rattle.boundary.specs.Boundary.{listed}
use mathlib.Core.Path.{◌∙◌, ap}
use Rattle.mb50.proofs.mb50_list.Goals as goal

pub returns : goal.returns
returns c = record { value = c.listed.ensures ∙ ap listed c.list.ensures.result_value; out_after = c.list.ensures.out_after }
