use mathlib.Core.Path.{refl, ◌∙◌}
use Rattle.calls.specs.Inputs.{box, set_register}
use Rattle.calls.proofs.Giving.{sets, sets-not}
use Rattle.calls.specs.declared.state.Refusal.TheVariants as Refusal
use Rattle.calls.proofs.Answering.{denied}
use Rattle.inputs.proofs.Taking.{taken, found, not_found}
use Rattle.inputs.proofs.set_register.Goals as goal

pub returns : goal.returns
returns c ram = let a = c.args in
    let f = found a.number _ c.in-Some.ensures in
    taken a.m ram a.journal.now (set_register a.number a.content) _ _ refl
    (sets (box a.m.cpu ram) _ a.number a.content f.0 (c.register_set.ensures ∙ rw f.1)) (c.accept.ensures ram)

pub returns-in_default : goal.returns-in_default
returns-in_default c ram = let a = c.args in
    denied a.m ram a.journal.now (set_register a.number a.content) Refusal.NoRegister _
    (sets-not (box a.m.cpu ram) a.number a.content (not_found a.number c.in_default.ensures))
    c.refused.ensures
