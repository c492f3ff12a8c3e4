use Rattle.std.proofs.Common.{length}
use Rattle.text_vectors.proofs.lines.line_rows.Given as goal

abbrev pub decreases-loop-rest : goal.decreases-loop-rest
decreases-loop-rest g l = length l.rest
