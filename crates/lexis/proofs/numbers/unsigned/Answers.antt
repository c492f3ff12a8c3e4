use mathlib.Core.Path.{◌∙◌}
use Rattle.lexis.proofs.Figuring.{short-word}
use Rattle.lexis.proofs.numbers.unsigned.Goals as goal

pub returns-then-word-lt2 : goal.returns-then-word-lt2
returns-then-word-lt2 c = c.in_base.ensures ∙ short-word c.args.word.now c.if-word-lt2.true
