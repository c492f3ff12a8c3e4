use Rattle.std.proofs.Common.{sym, ap, ◌∙◌, arith, get_or}
use lib.Seq.{drop-cons}
use Rattle.utf8.specs.Utf8.{letter_of}
use Rattle.utf8.proofs.Leads.{at-end, is_one}
use Rattle.utf8.proofs.letter_at.Goals as goal

pub returns-then-s-i : goal.returns-then-s-i
returns-then-s-i c = sym (at-end c.args.s.now c.args.i c.if-s-i.true)

pub returns-then-a-lt128 : goal.returns-then-a-lt128
returns-then-a-lt128 c =
    let s = c.args.s.now in
    rw c.from.ensures (is_one (get_or s c.args.i 0) _ (omega (arith, c.if-a-lt128.true))) ∙ ap letter_of (sym (drop-cons s c.args.i 0 c.if-s-i.false))
