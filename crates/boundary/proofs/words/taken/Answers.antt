use Rattle.boundary.proofs.Crossing.{takes}
use Rattle.boundary.proofs.words.taken.Goals as goal

pub returns : goal.returns
returns c = takes c.args.words c.decode-b.result (rw c.stretch.ensures at c.decode-b.ensures)
