use Rattle.bus.specs.State.{cpu}
use Rattle.recording.specs.Code.{standing}
use Rattle.running.proofs.Turns.{unwatched}
use Rattle.running.proofs.run.advance.Goals as goal

pub returns : goal.returns
returns c = let a = c.args in
    unwatched a.board.stretch a.steps (standing (cpu a.regs.now a.csrs.now a.board) a.place a.ram.now a.journal.now) _
    (c.advance.ensures.whole_run c.table-table.ensures)
