use mathlib.Core.Path.{◌≡◌}
use lib.ListN.{length, drop}
use Rattle.pens.specs.Pen.{all_registers}
use Rattle.pens.proofs.giving.are_registers.Given as goal

abbrev pub invariant-loop-rest : goal.invariant-loop-rest
invariant-loop-rest l = all_registers l.rest ≡ all_registers (drop 3 l.setup)

abbrev pub decreases-loop-rest : goal.decreases-loop-rest
decreases-loop-rest l = length l.rest
