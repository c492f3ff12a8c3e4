use Rattle.std.proofs.Common.{rules}
use Rattle.text.specs.Assembling.{assemble_says}
use Rattle.text.proofs.assemble.assemble.Goals as goal

pub returns-in_err-words : goal.returns-in_err-words
unfolding assemble_says
returns-in_err-words c =
    let h = rw c.in_err-words.ensures.ok_part at c.match_line.ensures.result_value in
    rw (← h) (search rules)

pub returns : goal.returns
unfolding assemble_says
returns c =
    let h = rw c.in_ok-words.ensures.ok_part at c.match_line.ensures.result_value in
    rw (← h, ← c.of.ensures, ← c.of-2.ensures, ← c.of-3.ensures) c.assemble_words.ensures
