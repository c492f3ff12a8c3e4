use Rattle.std.proofs.Common.{◌%◌, arith}
use Rattle.word.proofs.Shifts.{shra-low, shra-high}
use Rattle.word.proofs.bits.shra.Goals as goal

pub returns-then-a-lt32768 : goal.returns-then-a-lt32768
returns-then-a-lt32768 c = shra-low 16 c.args.a (c.args.by % 16) (omega arith)

pub returns : goal.returns
returns c = shra-high 16 c.args.a (c.args.by % 16) (omega arith) (omega arith) (omega arith)
