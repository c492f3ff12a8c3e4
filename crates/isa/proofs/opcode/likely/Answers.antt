use mathlib.Core.Path.{refl}
use Rattle.isa.specs.Opcode.{meaning}
use Rattle.isa.specs.Code.{mark_of, Marked}
use Rattle.isa.specs.declared.opcode.TheConstants.{MARKS}
use Rattle.isa.proofs.Guesses.{marked}
use Rattle.isa.proofs.opcode.likely.Goals as goal

-- The computed test of the marks, against the mnemonic of each opcode byte.
pub returns : goal.returns
unfolding mark_of Marked meaning
returns c = marked MARKS refl c.args.key
