use Rattle.std.proofs.Common.{◌^◌, ◌<◌, ◌≤◌}
use Rattle.manifests.proofs.Digits.{Reading}
use Rattle.manifests.proofs.fronts.read_digits.Given as goal

abbrev pub invariant-loop-count : goal.invariant-loop-count
invariant-loop-count l = (l.count ≤ 9) × (l.value < 10 ^ l.count) × Reading l.s l.count l.value
