use Rattle.std.proofs.Common.{◌≡◌, drop}
use Rattle.entries.specs.Entries.{meets}
use Rattle.stops.specs.Stops.{list_of, first_of}
use Rattle.stops.proofs.list.first.Given as goal

abbrev pub invariant-loop-e : goal.invariant-loop-e
invariant-loop-e l = first_of (meets l.x) (drop l.e-index l.e-items) ≡ first_of (meets l.x) (list_of l.fn.s)
