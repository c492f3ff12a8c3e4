use Rattle.std.proofs.Common.{◌≡◌, take}
use Rattle.std.specs.List.{fold}
use Rattle.report.specs.Digest.{absorbed}
use Rattle.report.proofs.absorb_bytes.Given as goal

abbrev pub invariant-loop-b : goal.invariant-loop-b
invariant-loop-b l = l.all ≡ fold absorbed l.digest (take l.b-index l.bytes)
