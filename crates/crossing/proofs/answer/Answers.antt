use Rattle.crossing.proofs.Results.{kept, rewritten}
use Rattle.crossing.proofs.answer.Goals as goal

pub returns-then-number-ne0 : goal.returns-then-number-ne0
returns-then-number-ne0 c ram ws l = let a = c.args in
    kept a.state.now a.r ram ws l _ c.said-result.ensures c.if-number-ne0.true

pub returns : goal.returns
returns c ram ws l = let a = c.args in
    rewritten a.state.now a.r ram ws l _ c.said-result.ensures _ _ c.if-number-ne0.false (c.answer-ignored.ensures ram ws)
