use Rattle.std.proofs.Common.{◌%◌, arith}
use Rattle.word.proofs.Shifts.{shr-bits}
use Rattle.word.proofs.bits.shr.Goals as goal

pub returns : goal.returns
returns c = shr-bits 16 c.args.a (c.args.by % 16) (omega arith)
