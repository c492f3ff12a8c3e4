use Rattle.std.proofs.Common.{arith}
use Rattle.text.proofs.KeyTexts.{key-width}
use Rattle.text.proofs.list.width.Goals as goal

pub returns : goal.returns
returns c = key-width c.args.key (omega arith)
