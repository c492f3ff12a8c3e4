use mathlib.Core.Path.{refl}
use Rattle.isa.specs.Code.{kind_ops, kind_op}
use Rattle.isa.specs.declared.opcode.Op.TheVariants.{Illegal}
use Rattle.isa.proofs.Matches.{outside}
use Rattle.isa.proofs.opcode.operation.Goals as goal

pub returns-in_default : goal.returns-in_default
unfolding kind_op kind_ops
returns-in_default c = outside (Illegal 2) kind_ops 1 _ 31 refl refl c.in_default.in_default-own.rest
