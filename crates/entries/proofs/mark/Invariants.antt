use Rattle.std.proofs.Common.{◌≡◌, ◌++◌, map, take, drop}
use Rattle.entries.specs.Entries.{counted}
use Rattle.entries.proofs.mark.Given as goal

abbrev pub invariant-loop-e : goal.invariant-loop-e
invariant-loop-e l = l.e-items ≡ map (counted l.x) (take l.e-index l.fn.list) ++ drop l.e-index l.fn.list
