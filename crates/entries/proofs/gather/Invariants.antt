use Rattle.std.proofs.Common.{◌≡◌, take, fold}
use Rattle.entries.specs.Code.{no_points, added}
use Rattle.entries.proofs.gather.Given as goal

abbrev pub invariant-loop-e : goal.invariant-loop-e
invariant-loop-e l = l.p ≡ fold added no_points (take l.e-index l.list)
