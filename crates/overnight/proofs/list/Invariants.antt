use Rattle.std.proofs.Common.{length, drop, ◌-◌, ◌≡◌}
use Rattle.calls.specs.Calls.{world_of}
use Rattle.manifests.specs.Manifests.{lines as lines_of}
use Rattle.pens.specs.Pen.{after_pens}
use Rattle.overnight.proofs.list.Given as goal

abbrev pub invariant-loop-at : goal.invariant-loop-at
invariant-loop-at l =
    ((length l.ram ≡ length l.initial.ram) × (length l.journal ≡ length l.initial.journal))
    × (after_pens (lines_of (drop l.at l.lines)) l.today l.last_good l.setup (world_of l.machine l.ram l.journal)
    ≡ after_pens (lines_of l.lines) l.today l.last_good l.setup (world_of l.initial.machine l.initial.ram l.initial.journal))

abbrev pub decreases-loop-at : goal.decreases-loop-at
decreases-loop-at l = length l.lines - l.at
