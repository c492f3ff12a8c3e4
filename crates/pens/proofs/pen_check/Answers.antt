use Rattle.std.proofs.Common.{ℕ, length, ap, ◌∙◌}
use Rattle.watched.specs.Answer.{or_else}
use Rattle.pens.specs.Pen.{address_in, name_check}
use Rattle.pens.proofs.pen_check.Goals as goal

pub returns : goal.returns
returns c =
    let a = c.args in
    record {
      number = c.name_check.ensures.number
          ∙ ap (λ (x : ℕ). name_check a.held a.judged x (length a.ram.now)) c.word_at.ensures
          ∙ ap (λ (x : ℕ). or_else x (name_check a.held a.judged (address_in a.setup.now) (length a.ram.now))) c.in_ok-refusal.ensures;
      letters = c.name_check.ensures.letters;
    }
