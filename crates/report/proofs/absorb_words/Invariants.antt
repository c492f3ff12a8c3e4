use Rattle.std.proofs.Common.{◌≡◌, take}
use Rattle.std.specs.List.{fold}
use Rattle.report.specs.Digest.{absorbed}
use Rattle.report.proofs.absorb_words.Given as goal

abbrev pub invariant-loop-w : goal.invariant-loop-w
invariant-loop-w l = l.all ≡ fold absorbed l.digest (take l.w-index l.words)
