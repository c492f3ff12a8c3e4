use Rattle.std.proofs.Common.{◌≡◌, length, sym, ◌∙◌}
use borrow.Author.Tests.{eqb-true, eq-eqb, ne_eqb}
use Rattle.manifests.specs.Code.{noted}
use Rattle.manifests.proofs.Heads.{noted-none}
use Rattle.manifests.proofs.indexing.note.Goals as goal

pub returns-in_default : goal.returns-in_default
unfolding noted
returns-in_default c = rw c.in_default.is

pub returns-then-is_empty : goal.returns-then-is_empty
returns-then-is_empty c = let a = c.args in
    let h : length a.heads.now ≡ 0 = eqb-true (length c.args.heads.now) 0 (sym c.is_empty.ensures ∙ c.if-is_empty.true) in
    noted-none a.size a.at a.number a.heads.now h

pub returns-then-heads-i : goal.returns-then-heads-i
unfolding noted
returns-then-heads-i c = rw (c.in-Some.is, eq-eqb _ _ c.if-heads-i.true)

pub returns-else-heads-i : goal.returns-else-heads-i
unfolding noted
returns-else-heads-i c = rw (c.in-Some.is, ne_eqb _ _ c.if-heads-i.false)
