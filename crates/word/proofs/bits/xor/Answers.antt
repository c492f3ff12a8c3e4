use Rattle.word.proofs.Bitwise.{xor-bits}
use Rattle.std.proofs.Common.{arith}
use Rattle.word.proofs.bits.xor.Goals as goal

pub returns : goal.returns
returns c = xor-bits 16 c.args.a c.args.b (omega arith) (omega arith)
