use Rattle.machine.specs.Asked.{asked}
use Rattle.boundary.proofs.Crossing.{crosses}
use Rattle.mb50.proofs.cross.Goals as goal

pub returns : goal.returns
returns c = let a = c.args in
    crosses (asked a.call) a.state.now a.ram.now a.journal.now c.taken-m.result c.answer-r.result _ _ _ _ c.taken-m.ensures
    c.answer-r.ensures (c.answer.ensures _ _)
