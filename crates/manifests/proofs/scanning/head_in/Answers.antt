use Rattle.std.proofs.Common.{◌≡◌, length, refl, sym, ◌∙◌}
use borrow.Author.Tests.{eqb-true}
use Rattle.manifests.specs.Code.{head_in}
use Rattle.manifests.proofs.Heads.{no-head}
use Rattle.manifests.proofs.scanning.head_in.Goals as goal

pub returns-then-is_empty : goal.returns-then-is_empty
returns-then-is_empty c =
    let h : length c.args.heads.now ≡ 0 = eqb-true (length c.args.heads.now) 0 (sym c.is_empty.ensures ∙ c.if-is_empty.true) in
    no-head c.args.heads.now c.args.n h

pub returns : goal.returns
unfolding head_in
returns c = refl
