use mathlib.Core.Path.{refl}
use Rattle.isa.specs.Code.{kind_names}
use Rattle.isa.proofs.Matches.{outside}
use Rattle.isa.proofs.opcode.plain_name.Goals as goal

pub returns-in_default : goal.returns-in_default
unfolding kind_names
returns-in_default c = outside 0 kind_names 4 _ 28 refl refl c.in_default.in_default-own.rest
