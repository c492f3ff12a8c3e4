use Rattle.recording.proofs.Turns.{turned}
use Rattle.recording.proofs.recorded_step.Goals as goal

pub returns : goal.returns
returns c tells = let a = c.args in
    turned a.regs.now a.csrs.now a.board a.ram.now a.journal.now a.place c.step-q.result c.push-after.result _ _ _ _ _ _
    (c.step-q.ensures tells) (c.encode-words.ensures a.board.stretch) c.push-after.ensures c.note.ensures
