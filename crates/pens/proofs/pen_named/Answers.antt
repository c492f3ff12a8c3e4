use Rattle.std.proofs.Common.{refl, sym, ap, ◌∙◌}
use Rattle.calls.specs.Calls.{world_of}
use Rattle.pens.specs.Pen.{pen_check}
use Rattle.pens.specs.Code.{refusal_number, report_as}
use Rattle.pens.specs.declared.Report.{Report}
use Rattle.pens.proofs.Checks.{refuses, nothing-refuses, denies, accepts}
use Rattle.pens.proofs.pen_named.Goals as goal

pub accepted-requires : goal.accepted-requires
accepted-requires c =
    let a = c.args in
    let w = world_of a.m a.ram.now a.journal.now in
    nothing-refuses a.held a.name.now a.setup.now w c.in-Ok.n (sym c.judge.ensures ∙ c.in-Ok.ensures.letters c.in-Ok.n refl)
    (ap (λ j. pen_check a.held j a.setup.now w) (sym c.judge.ensures) ∙ sym c.in-Ok.ensures.number)

pub returns-in-Ok : goal.returns-in-Ok
returns-in-Ok c =
    let a = c.args in
    let w = world_of a.m a.ram.now a.journal.now in
    accepts a.held a.name.now a.setup.now w (ap (λ j. pen_check a.held j a.setup.now w) (sym c.judge.ensures) ∙ sym c.in-Ok.ensures.number) ∙ c.accepted.ensures

pub returns-in-Err : goal.returns-in-Err
returns-in-Err c =
    let a = c.args in
    let w = world_of a.m a.ram.now a.journal.now in
    denies a.held a.name.now a.setup.now w (refusal_number c.in-Err.why)
    (c.in-Err.ensures.number ∙ ap (λ j. pen_check a.held j a.setup.now w) c.judge.ensures) (refuses c.in-Err.why)
    ∙ ap (λ (r : Report). report_as r a.ram.now a.journal.now) (sym c.refused.ensures)
