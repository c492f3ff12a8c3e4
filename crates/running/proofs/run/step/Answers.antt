use mathlib.Core.Path.{◌∙◌}
use Rattle.calls.specs.Inputs.{box, step}
use Rattle.calls.specs.declared.state.Refusal.TheVariants as Refusal
use Rattle.calls.proofs.Giving.{step-stops}
use Rattle.calls.proofs.Answering.{denied}
use Rattle.running.proofs.Turns.{alone}
use Rattle.running.proofs.run.step.Goals as goal

pub returns-then-m : goal.returns-then-m
returns-then-m c = let a = c.args in
    denied a.m a.ram.now a.journal.now step Refusal.Halted _ (step-stops (box a.m.cpu a.ram.now) c.if-m.true)
    c.refused.ensures

pub returns : goal.returns
returns c = let a = c.args in
    alone a.m a.ram.now a.journal.now c.advance-e.result _ _ _ _ c.if-m.false
    (rw c.place_of.ensures at c.advance-e.ensures) ∙ rw c.machine_of.ensures
