use Rattle.word.proofs.Bitwise.{and-bits}
use Rattle.std.proofs.Common.{arith}
use Rattle.word.proofs.bits.and.Goals as goal

pub returns : goal.returns
returns c = and-bits 16 c.args.a c.args.b (omega arith) (omega arith)
