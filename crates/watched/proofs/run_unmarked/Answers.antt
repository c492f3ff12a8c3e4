use mathlib.Core.Path.{sym, ◌∙◌}
use Rattle.watched.proofs.Answering.{denies, accepts}
use Rattle.watched.proofs.run_unmarked.Goals as goal

pub returns-in-Err : goal.returns-in-Err
returns-in-Err c = let a = c.args in
    rw (c.refused.ensures, c.from.ensures)
    (denies a.m a.ram.now a.journal.now a.budget a.list.now c.in-Err.why (rw c.in-Err.is at c.check.ensures))

pub returns-in-Ok : goal.returns-in-Ok
returns-in-Ok c = let a = c.args in
    accepts a.m a.ram.now a.journal.now a.budget a.list.now (sym (rw c.in-Ok.is at c.check.ensures)) ∙ c.accepted.ensures
