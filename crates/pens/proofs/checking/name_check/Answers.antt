use Rattle.std.proofs.Common.{sym, ◌∙◌}
use Rattle.pens.proofs.Checks.{name-not-held, name-held, judged-unfit, judged-room}
use Rattle.pens.proofs.checking.name_check.Goals as goal

pub returns-then-is_none-clause-number : goal.returns-then-is_none-clause-number
returns-then-is_none-clause-number c = let a = c.args in
    name-not-held a.at a.ram a.held a.judged c.if-is_none.ensures

pub returns-in-Err-clause-number : goal.returns-in-Err-clause-number
returns-in-Err-clause-number c = let a = c.args in
    judged-unfit a.at a.ram a.judged c.in-Err.unfit c.in-Err.is ∙ name-held a.at a.ram a.held a.judged c.if-is_none.ensures

pub returns-then-is_room-clause-number : goal.returns-then-is_room-clause-number
returns-then-is_room-clause-number c = let a = c.args in
    judged-room a.at a.ram a.judged c.in-Ok.n _ c.in-Ok.is (sym c.is_room.ensures ∙ c.if-is_room.true) ∙ name-held a.at a.ram a.held a.judged c.if-is_none.ensures

pub returns-else-is_room-clause-number : goal.returns-else-is_room-clause-number
returns-else-is_room-clause-number c = let a = c.args in
    judged-room a.at a.ram a.judged c.in-Ok.n _ c.in-Ok.is (sym c.is_room.ensures ∙ c.if-is_room.false) ∙ name-held a.at a.ram a.held a.judged c.if-is_none.ensures
