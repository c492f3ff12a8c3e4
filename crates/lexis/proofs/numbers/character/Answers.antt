use mathlib.Core.Path.{sym, ◌∙◌}
use Rattle.quoted.specs.Quoted.{meant}
use Rattle.quoted.specs.declared.Mode.TheVariants.{Plain}
use Rattle.lexis.proofs.Characters.{chars-are, chars_none}
use Rattle.lexis.proofs.numbers.character.Goals as goal

pub returns-in-Ok : goal.returns-in-Ok
returns-in-Ok c = let s = c.args.inside.now in
    rw c.of_chars.ensures (chars-are (meant 39 Plain s) _ _ (sym c.read.ensures.value ∙ c.in-Ok.is) c.read.ensures.out_after)

pub returns-in-Err : goal.returns-in-Err
returns-in-Err c = let s = c.args.inside.now in
    chars_none (meant 39 Plain s) c.in-Err.field-0 (sym c.read.ensures.value ∙ c.in-Err.is)
