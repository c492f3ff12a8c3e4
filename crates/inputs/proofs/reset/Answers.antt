use mathlib.Core.Path.{refl}
use Rattle.calls.specs.Inputs.{box, resets}
use Rattle.calls.proofs.Giving.{starts}
use Rattle.inputs.proofs.Taking.{taken}
use Rattle.inputs.proofs.reset.Goals as goal

pub returns : goal.returns
returns c ram = let a = c.args in
    taken a.m ram a.journal.now resets _ _ refl (starts (box a.m.cpu ram) _ c.reset-fresh.ensures) (c.accept.ensures ram)
