use Rattle.std.proofs.Common.{◌≡◌, ◌≤◌, take}
use Rattle.stops.specs.Stops.{list_of, kept}
use Rattle.stops.proofs.list.without.Given as goal

abbrev pub invariant-loop-e : goal.invariant-loop-e
invariant-loop-e l = (l.after.count ≤ l.e-index) × (list_of l.after ≡ kept l.g (take l.e-index l.e-items))
