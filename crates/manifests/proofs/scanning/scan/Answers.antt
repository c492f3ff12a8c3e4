use mathlib.Core.Path.{◌≡◌, refl, sym, ◌∙◌}
use Prim.Native.Nat.{ℕ}
use lib.Dec.{eqb}
use Rattle.std.specs.Prelude.{Option, Some, None}
use Rattle.std.specs.Option.{option_eq}
use Rattle.manifests.specs.Manifests.{is_number}
use native.Mathlib.Omega.{arith}
use Rattle.manifests.proofs.Keys.{got-within, look-here, look-on, look-past}
use Rattle.manifests.proofs.scanning.scan.Goals as goal

-- the library's test of the number is the one of the rules
told : (n : ℕ) (k : Option ℕ) → is_number n k ≡ option_eq eqb k (Some n)
told n (Some m) = refl
told n None = refl

pub overflow_add-tab : goal.overflow_add-tab
overflow_add-tab c = let s = c.args.s.now in
    record { fits = omega (arith, got-within s c.loop-at.at c.read_front-number.result c.read_front-number.ensures c.loop-at-test.true) }

pub overflow_add-result : goal.overflow_add-result
overflow_add-result c = let s = c.args.s.now in
    record { fits = omega (arith, got-within s c.loop-at.at c.read_front-number.result c.read_front-number.ensures c.loop-at-test.true) }

pub returns-then-eq : goal.returns-then-eq
returns-then-eq c = let a = c.args in
    look-here a.s.now c.loop-at.at c.read_front-number.result c.read_front-number.ensures a.n c.line_end-end.result c.loop-at-test.true
    c.line_end-end.ensures.value (told a.n c.read_front-number.result.number ∙ sym c.eq.ensures ∙ c.if-eq.true)
    ∙ c.loop-at.invariant

pub overflow_add-at : goal.overflow_add-at
overflow_add-at c = let s = c.args.s.now in
    let w = got-within s c.loop-at.at c.read_front-number.result c.read_front-number.ensures c.loop-at-test.true in
    record { fits = omega (arith, c.line_end-end.ensures.upper_bound w) }

pub loop-at-preserved : goal.loop-at-preserved
loop-at-preserved c = let a = c.args in
    look-on a.s.now c.loop-at.at c.read_front-number.result c.read_front-number.ensures a.n c.line_end-end.result c.loop-at-test.true
    c.line_end-end.ensures.value (told a.n c.read_front-number.result.number ∙ sym c.eq.ensures ∙ c.if-eq.false)
    ∙ c.loop-at.invariant

pub returns : goal.returns
returns c = let a = c.args in
    look-past a.s.now c.loop-at.at a.n c.loop-at-test.false ∙ c.loop-at.invariant

pub loop-at-init : goal.loop-at-init
loop-at-init c = refl
