use native.Mathlib.Omega.{arith}
use mathlib.Core.Path.{sym, ◌∙◌, ap}
use Rattle.pens.specs.Pen.{all_registers}
use Rattle.pens.proofs.Given.{all-not, all-on, all_end}
use Rattle.pens.proofs.giving.are_registers.Goals as goal

pub loop-rest-init : goal.loop-rest-init
loop-rest-init c = ap all_registers c.given-rest.ensures

pub returns-then-number-gt15 : goal.returns-then-number-gt15
returns-then-number-gt15 c = sym (all-not _ c.in-len2-up.len_at_least c.if-number-gt15.true) ∙ c.loop-rest.invariant

pub loop-rest-preserved : goal.loop-rest-preserved
loop-rest-preserved c = sym (all-on _ c.in-len2-up.len_at_least (omega (arith, c.if-number-gt15.false))) ∙ c.loop-rest.invariant

pub returns : goal.returns
returns c = sym (all_end c.loop-rest.rest.now (omega (arith, c.in_default.len_below))) ∙ c.loop-rest.invariant
