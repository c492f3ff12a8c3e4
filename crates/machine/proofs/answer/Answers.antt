use mathlib.Core.Path.{sym, ◌∙◌}
use Rattle.calls.proofs.Answering.{fails, passes}
use Rattle.machine.specs.Asked.{asked}
use Rattle.machine.proofs.answer.Goals as goal

pub returns-in-Err : goal.returns-in-Err
returns-in-Err c = let a = c.args in
    fails a.m a.ram.now a.journal.now c.in-Err.why (rw c.in-Err.is at c.check.ensures) (asked a.call) _ c.refused.ensures

pub returns-in-Ok : goal.returns-in-Ok
returns-in-Ok c = let a = c.args in
    let e = rw c.in-Ok.is at c.check.ensures in
    passes a.m a.ram.now a.journal.now e (asked a.call) ∙ c.act.ensures (sym e)
