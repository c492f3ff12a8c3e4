use mathlib.Core.Path.{ap, ◌∙◌}
use Rattle.lexis.specs.Code.{judged_of}
use Rattle.lexis.proofs.Figuring.{judges}
use Rattle.lexis.proofs.numbers.in_base.Goals as goal

pub returns : goal.returns
returns c = c.judged.ensures ∙ ap (judged_of c.args.base) c.counted_up.ensures ∙ judges c.args.base c.args.text.now c.requires.0 c.requires.1
