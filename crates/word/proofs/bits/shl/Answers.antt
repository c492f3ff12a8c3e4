use Rattle.std.proofs.Common.{◌*◌, ◌%◌, ◌^◌, ◌∙◌}
use lib.Pow.{mod-mod-pow}
use Rattle.word.proofs.Shifts.{shl-bits}
use Rattle.word.proofs.bits.shl.Goals as goal

pub returns : goal.returns
returns c = rw c.from.ensures (mod-mod-pow (c.args.a * 2 ^ (c.args.by % 16)) 16 16 ∙ shl-bits 16 c.args.a (c.args.by % 16))
