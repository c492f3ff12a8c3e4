use native.Mathlib.Omega.{arith}
use Rattle.image.specs.Image.{last_line}
use Rattle.image.proofs.lines.put_last.Goals as goal

pub slice_bounds-put-end : goal.slice_bounds-put-end
unfolding last_line
slice_bounds-put-end c = rw c.front-text.ensures (omega arith)

pub returns : goal.returns
unfolding last_line
returns c = rw c.front-text.ensures at c.put.ensures
