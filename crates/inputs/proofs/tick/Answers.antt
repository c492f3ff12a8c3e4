use mathlib.Core.Path.{refl}
use Rattle.calls.specs.Inputs.{box, tick}
use Rattle.calls.proofs.Giving.{ticks}
use Rattle.inputs.proofs.Taking.{taken}
use Rattle.inputs.proofs.tick.Goals as goal

pub returns : goal.returns
returns c ram = let a = c.args in
    taken a.m ram a.journal.now tick _ _ refl (ticks (box a.m.cpu ram) _ c.ticked.ensures) (c.accept.ensures ram)
