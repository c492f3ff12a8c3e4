use Rattle.std.proofs.Common.{length, ◌-◌, ◌≡◌}
use Rattle.evening.proofs.arguments.gathered.Given as goal

abbrev pub invariant-loop-i : goal.invariant-loop-i
invariant-loop-i l = length l.setup ≡ length l.initial.setup

abbrev pub decreases-loop-i : goal.decreases-loop-i
decreases-loop-i l = l.n - l.i
