use lib.ListN.{length}
use Rattle.image.proofs.Writing.{Writing}
use Rattle.image.proofs.lines.put_lines.Given as goal

abbrev pub invariant-loop-rest : goal.invariant-loop-rest
invariant-loop-rest l = Writing l.initial.out l.a l.image l.rest l.address l.at l.out

abbrev pub decreases-loop-rest : goal.decreases-loop-rest
decreases-loop-rest l = length l.rest
