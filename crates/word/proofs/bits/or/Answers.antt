use Rattle.word.proofs.Bitwise.{or-bits}
use Rattle.std.proofs.Common.{arith}
use Rattle.word.proofs.bits.or.Goals as goal

pub returns : goal.returns
returns c = or-bits 16 c.args.a c.args.b (omega arith) (omega arith)
