use mathlib.Core.Path.{◌≡◌}
use mathlib.Core.Bool.{true}
use lib.ListN.{length, drop}
use Rattle.calls.specs.Calls.{world_of}
use Rattle.pens.specs.Pen.{all_registers, settings, made}
use Rattle.pens.proofs.giving.give.Given as goal

abbrev pub invariant-loop-rest : goal.invariant-loop-rest
invariant-loop-rest l = (length l.ram ≡ length l.initial.ram) × (length l.journal ≡ length l.initial.journal) × (all_registers l.rest ≡ true)
    × (made (settings l.rest) (world_of l.after l.ram l.journal) ≡ made (settings (drop 3 l.setup)) (world_of l.initial.after l.initial.ram l.initial.journal))

abbrev pub decreases-loop-rest : goal.decreases-loop-rest
decreases-loop-rest l = length l.rest
