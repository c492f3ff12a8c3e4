use mathlib.Core.Path.{◌∙◌}
use Rattle.inputs.proofs.keep.Goals as goal

pub returns : goal.returns
returns c = c.push.ensures ∙ rw (c.encode-words.ensures c.args.m.cpu.board.stretch)
