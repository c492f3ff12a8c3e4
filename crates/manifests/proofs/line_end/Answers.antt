use Rattle.std.proofs.Common.{sym, rules, tests, length, take, drop, ◌-◌}
use Rattle.std.proofs.lemmas.Iterator.{YieldsList-from_slice}
use Rattle.std.proofs.lemmas.Iterator.Search.{position_from_yields_List}
use Rattle.manifests.proofs.Lined.{is_lf, end-past, end-at}
use Rattle.manifests.proofs.line_end.Goals as goal

pub returns-then-s-at-clause-value : goal.returns-then-s-at-clause-value
returns-then-s-at-clause-value c = sym (end-past c.args.s.now c.args.at c.if-s-at.true)

pub returns-clause-value : goal.returns-clause-value
returns-clause-value c =
    let s = c.args.s.now in
    let rest = take (length s - c.args.at) (drop c.args.at s) in
    end-at s c.args.at c.position.result c.unwrap_or.result
    (position_from_yields_List is_lf _ _ c.position.result c.position.ensures.ran (YieldsList-from_slice rest c.iter.ensures.rest) (λ x b q k. search (rules, tests)))
    c.unwrap_or.ensures
