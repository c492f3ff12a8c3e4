use borrow.Author.Rules.{rules}
use native.Mathlib.Omega.{arith}
use mathlib.Core.Path.{◌≡◌, refl, ap, ◌∙◌}
use Prim.Native.Nat.{ℕ, ◌+◌, ◌-◌}
use Rattle.history.specs.Trace.{give}
use Rattle.calls.specs.Inputs.{poke}
use Rattle.calls.specs.Calls.{world_of, answer_of}
use Rattle.pens.proofs.Lettered.{begun, turn, closed}
use Rattle.pens.proofs.poking.poke_name.Goals as goal

pub loop-a-init : goal.loop-a-init
loop-a-init c = let a = c.args in
    let e : a.at + a.n - a.at ≡ a.n = omega arith in
    (refl, refl, rw e (begun a.name.now a.n a.at _ c.requires.0))

pub loop-a-preserved : goal.loop-a-preserved
loop-a-preserved c = let a = c.args in
    let k = c.loop-a in
    let e : a.at + a.n - (k.a + 1) ≡ a.at + a.n - k.a - 1 = omega arith in (
      search rules,
      search rules,
      rw e (turn a.name.now k.i _ k.a _ _ k.invariant.2 (omega (arith, c.loop-a-test.true)) _ _ c.single_at-s.ensures _ c.make-after.ensures),
    )

pub returns : goal.returns
returns c = let k = c.loop-a in
    let e : c.args.at + c.args.n ≡ k.a = omega (arith, c.loop-a-test.false) in
    c.make.ensures ∙ ap (λ (x : ℕ). (answer_of (give (poke x 0)) (world_of k.after k.ram k.journal)).world) e
    ∙ closed c.args.name.now k.i _ k.a _ _ k.invariant.2 (omega (arith, c.loop-a-test.false))
