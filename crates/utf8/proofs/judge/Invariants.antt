use Prim.Native.Nat.{◌-◌, ◌≤◌}
use mathlib.Core.Path.{◌≡◌}
use lib.ListN.{length, drop}
use Rattle.utf8.specs.Utf8.{points}
use Rattle.utf8.specs.Latin.{judged_of}
use Rattle.utf8.proofs.Judging.{judging}
use Rattle.utf8.proofs.judge.Given as goal

abbrev pub invariant-loop-i : goal.invariant-loop-i
invariant-loop-i l = (l.n ≤ l.i) × (l.i ≤ length l.name) × (judging l.latin l.n (points (drop l.i l.name)) ≡ judged_of l.name)

abbrev pub decreases-loop-i : goal.decreases-loop-i
decreases-loop-i l = length l.name - l.i
