use mathlib.Core.Path.{refl}
use Rattle.calls.specs.Inputs.{box, receive}
use Rattle.calls.proofs.Giving.{receives, receives-not}
use Rattle.calls.specs.declared.state.Refusal.TheVariants as Refusal
use Rattle.calls.proofs.Answering.{denied}
use Rattle.inputs.proofs.Taking.{taken}
use Rattle.inputs.proofs.receive.Goals as goal

pub returns-then-m : goal.returns-then-m
returns-then-m c ram = let a = c.args in
    denied a.m ram a.journal.now (receive a.byte) Refusal.NotReady _ (receives-not (box a.m.cpu ram) a.byte c.if-m.true)
    c.refused.ensures

pub returns : goal.returns
returns c ram = let a = c.args in
    taken a.m ram a.journal.now (receive a.byte) _ _ refl (receives (box a.m.cpu ram) _ a.byte c.if-m.false c.received.ensures)
    (c.accept.ensures ram)
