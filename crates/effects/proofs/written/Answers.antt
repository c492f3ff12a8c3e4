use mathlib.Core.Path.{sym}
use native.Mathlib.Omega.{arith}
use lib.Seq.{set_out}
use Rattle.effects.proofs.written.Goals as goal

pub returns : goal.returns
returns c = sym (set_out c.args.regs c.args.number c.args.content (omega (arith, c.well_formed.0, c.if-number-lt16.false)))
