use native.Mathlib.Omega.{arith}
use mathlib.Core.Path.{sym, ◌∙◌}
use Rattle.utf8.proofs.Reading.{stays_within}
use Rattle.pens.proofs.Lettered.{singles-letter, singles-bad}
use Rattle.pens.proofs.poking.single_at.Goals as goal

pub overflow_add-result : goal.overflow_add-result
overflow_add-result c = let g = c.in-Some.letter in let a = c.args in
    let h = stays_within a.name.now a.i g.point g.length (sym c.letter_at.ensures ∙ c.in-Some.is) in
    omega (arith, h)

pub returns-in-Some : goal.returns-in-Some
returns-in-Some c = let g = c.in-Some.letter in let a = c.args in
    singles-letter a.name.now a.i g.point g.length (sym c.letter_at.ensures ∙ c.in-Some.is)

pub returns-in-None : goal.returns-in-None
returns-in-None c = let a = c.args in
    singles-bad a.name.now a.i 0 a.i (sym c.letter_at.ensures ∙ c.in-None.is)
