use Rattle.boundary.proofs.Crossing.{ends, kept, rewritten}
use Rattle.calls.specs.Calls.{world_of}
use Rattle.boundary.proofs.words.answer.Goals as goal

pub returns-then-is_refusal : goal.returns-then-is_refusal
returns-then-is_refusal c ram ws = let a = c.args in
    kept a.state.now a.r ram ws _ _ (c.said.ensures (world_of a.r.machine ram ws))
    (c.is_refusal.ensures (world_of a.r.machine ram ws)) c.if-is_refusal.true

pub returns : goal.returns
returns c ram ws = let a = c.args in
    let m = a.r.machine in
    rewritten a.state.now a.r ram ws _ _ (c.said-2.ensures (world_of m ram ws)) (c.is_refusal.ensures (world_of m ram ws)) _ c.if-is_refusal.false
    (ends m.cpu m.next m.held _ c.given-words.ensures)
