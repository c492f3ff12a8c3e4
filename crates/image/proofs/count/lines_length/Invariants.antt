use lib.ListN.{length}
use Rattle.image.proofs.Writing.{Counting}
use Rattle.image.proofs.count.lines_length.Given as goal

abbrev pub invariant-loop-rest : goal.invariant-loop-rest
invariant-loop-rest l = Counting l.image l.rest l.n

abbrev pub decreases-loop-rest : goal.decreases-loop-rest
decreases-loop-rest l = length l.rest
