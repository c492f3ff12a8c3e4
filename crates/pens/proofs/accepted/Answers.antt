use mathlib.Core.Path.{sym, ◌∙◌, ap}
use Rattle.calls.specs.Calls.{W}
use Rattle.pens.specs.Pen.{reported, matching}
use Rattle.pens.proofs.accepted.Goals as goal

pub prepared-ready-requires : goal.prepared-ready-requires
prepared-ready-requires c = c.requires

pub returns : goal.returns
returns c = let a = c.args in
    ap (λ (w : W). reported a.held (matching a.setup.now w)) (sym c.prepared-ready.ensures) ∙ c.run.ensures
