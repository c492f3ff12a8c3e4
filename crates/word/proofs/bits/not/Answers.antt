use Rattle.word.proofs.Bitwise.{not-bits}
use Rattle.std.proofs.Common.{arith}
use Rattle.word.proofs.bits.not.Goals as goal

pub returns : goal.returns
returns c = not-bits 16 c.args.a (omega arith)
