use mathlib.Core.Path.{refl}
use Rattle.calls.specs.Inputs.{box, sent}
use Rattle.calls.proofs.Giving.{sends, sends-not}
use Rattle.calls.specs.declared.state.Refusal.TheVariants as Refusal
use Rattle.calls.proofs.Answering.{denied}
use Rattle.inputs.proofs.Taking.{taken}
use Rattle.inputs.proofs.sent.Goals as goal

pub returns-then-m : goal.returns-then-m
returns-then-m c ram = let a = c.args in
    denied a.m ram a.journal.now sent Refusal.NotReady _ (sends-not (box a.m.cpu ram) c.if-m.true) c.refused.ensures

pub returns : goal.returns
returns c ram = let a = c.args in
    taken a.m ram a.journal.now sent _ _ refl (sends (box a.m.cpu ram) _ c.if-m.false c.sent_off.ensures)
    (c.accept.ensures ram)
