use mathlib.Core.Path.{◌≡◌}
use Prim.Native.Nat.{◌-◌}
use lib.ListN.{length}
use Rattle.manifests.specs.Code.{table_of}
use Rattle.manifests.proofs.Heads.{noted_from}
use Rattle.manifests.proofs.indexing.table.Given as goal

abbrev pub invariant-loop-at : goal.invariant-loop-at
invariant-loop-at l = (length l.heads ≡ length l.fn.heads) × (noted_from l.s l.at l.heads ≡ table_of (length l.fn.heads) l.s)

abbrev pub decreases-loop-at : goal.decreases-loop-at
decreases-loop-at l = length l.s - l.at
