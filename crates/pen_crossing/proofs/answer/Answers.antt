use Rattle.pen_crossing.proofs.Results.{kept, rewritten}
use Rattle.pen_crossing.proofs.answer.Goals as goal

pub returns-then-number-ne0 : goal.returns-then-number-ne0
returns-then-number-ne0 c ram ws = let a = c.args in
    kept a.state.now a.r ram ws _ c.said-result.ensures c.if-number-ne0.true

pub returns : goal.returns
returns c ram ws = let a = c.args in
    rewritten a.state.now a.r ram ws _ c.said-result.ensures _ _ c.if-number-ne0.false (c.answer-ignored.ensures ram ws)
