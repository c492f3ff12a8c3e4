use Rattle.boundary.proofs.Crossing.{writes}
use Rattle.boundary.proofs.words.given.Goals as goal

pub returns : goal.returns
returns c = let a = c.args in
    writes a.m.cpu a.m.next a.m.held _ (c.encode-words.ensures a.m.cpu.board.stretch)
