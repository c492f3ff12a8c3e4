use mathlib.Core.Path.{sym, ◌∙◌}
use native.Mathlib.Omega.{arith}
use Rattle.entries.proofs.Raising.{raises-none, raises-next, raises-all}
use Rattle.entries.proofs.raise.Goals as goal

pub loop-i-init : goal.loop-i-init
loop-i-init c = sym (raises-none _ _ _ _)

pub loop-i-preserved : goal.loop-i-preserved
loop-i-preserved c = let a = c.args in let g = c.well_formed in
    let l = c.loop-i-test.true in
    rw (c.counted-c.ensures, c.loop-i.invariant)
    (raises-next a.x c.loop-i.i a.addresses a.kinds a.hits (omega (arith, l, g.0)) (omega (arith, l, g.1.0)) (omega (arith, l, g.1.1.0)))

pub returns : goal.returns
returns c = let a = c.args in
    c.loop-i.invariant ∙ raises-all a.x c.loop-i.i a.addresses a.kinds a.hits (omega (arith, c.loop-i-test.false, c.well_formed.0))
