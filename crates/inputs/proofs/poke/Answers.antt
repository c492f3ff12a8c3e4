use Rattle.calls.specs.Inputs.{box, poke}
use Rattle.calls.proofs.Giving.{pokes-not}
use Rattle.calls.specs.declared.state.Refusal.TheVariants as Refusal
use Rattle.calls.proofs.Answering.{denied}
use Rattle.inputs.proofs.Taking.{poked}
use Rattle.inputs.proofs.poke.Goals as goal

pub returns-then-ram-a : goal.returns-then-ram-a
returns-then-ram-a c = let a = c.args in
    denied a.m a.ram.now a.journal.now (poke a.address a.byte) Refusal.NotRam _
    (pokes-not (box a.m.cpu a.ram.now) a.address a.byte c.if-ram-a.true) c.refused.ensures

pub returns : goal.returns
returns c = let a = c.args in
    poked a.m a.ram.now a.journal.now a.address a.byte _ _ _ _ c.if-ram-a.false c.join-old.ensures c.keep-p.ensures
