use mathlib.Core.Path.{◌∙◌}
use mathlib.Core.List.{[]}
use Rattle.manifests.proofs.Heads.{no-heads}
use Rattle.pens.proofs.Joined.{headed-pen}
use Rattle.pen_crossing.proofs.Results.{crosses}
use Rattle.pen_crossing.proofs.cross_pen.Goals as goal

pub returns : goal.returns
returns c = let a = c.args in
    crosses a.line.now a.today.now a.last_good.now a.setup.now a.state.now a.ram.now a.journal.now c.taken-m.result c.pen-r.result _ _ _ _
    c.taken-m.ensures (headed-pen a.line.now a.today.now [] a.last_good.now [] a.setup.now _ (no-heads a.today.now) (no-heads a.last_good.now) ∙ c.pen-r.ensures)
    (c.answer.ensures _ _)
