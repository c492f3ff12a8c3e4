use mathlib.Core.Path.{◌∙◌}
use Rattle.calls.specs.Calls.{world_of}
use Rattle.running.proofs.Turns.{told}
use Rattle.running.proofs.run.run.Goals as goal

pub returns : goal.returns
returns c = let a = c.args in
    told a.m.cpu.board.stretch a.budget (world_of a.m a.ram.now a.journal.now) c.advance-e.result _ _ _ _
    (rw c.place_of.ensures at c.advance-e.ensures)
    ∙ rw (c.machine_of.ensures, c.told.ensures)
