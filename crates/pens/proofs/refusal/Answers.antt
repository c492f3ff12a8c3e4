use Rattle.std.proofs.Common.{ℕ, cond, sym, ap, ◌∙◌}
use Rattle.watched.specs.Answer.{or_else}
use Rattle.pens.specs.Pen.{given_in, all_registers}
use Rattle.pens.proofs.Checks.{passed}
use Rattle.pens.proofs.refusal.Goals as goal

pub returns : goal.returns
returns c =
    c.register_check.ensures
    ∙ ap (λ (x : ℕ). or_else x (cond (all_registers (given_in c.args.setup.now)) 0 6)) (sym (passed c.check.result c.in_ok-map_err.ensures.variant) ∙ c.check.ensures)
