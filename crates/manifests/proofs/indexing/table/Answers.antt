use mathlib.Core.Path.{◌≡◌, ap, ◌∙◌}
use Prim.Native.Nat.{◌+◌}
use native.Mathlib.Omega.{arith}
use lib.ListN.{length, replicate}
use Rattle.manifests.specs.Code.{noted}
use Rattle.manifests.proofs.Keys.{got-within}
use Rattle.manifests.proofs.Heads.{noted_from, heads-begin, noted-length, noted-on, noted-past}
use Rattle.manifests.proofs.indexing.table.Goals as goal

pub loop-at-init : goal.loop-at-init
loop-at-init c = let a = c.args in
    let e : c.fill.new.self ≡ replicate (length a.heads.now) (length a.s.now) = c.fill.ensures.after (λ y e. e) in
    rw e (heads-begin a.s.now a.heads.now)

pub overflow_add-at : goal.overflow_add-at
overflow_add-at c = let s = c.args.s.now in
    record { fits = omega (arith, got-within s c.loop-at.at c.read_front-number.result c.read_front-number.ensures c.loop-at-test.true) }

pub overflow_add-at-in-loop-at : goal.overflow_add-at-in-loop-at
overflow_add-at-in-loop-at c = let s = c.args.s.now in
    let w = got-within s c.loop-at.at c.read_front-number.result c.read_front-number.ensures c.loop-at-test.true in
    record { fits = omega (arith, c.line_end-at.ensures.upper_bound w) }

pub loop-at-smaller : goal.loop-at-smaller
loop-at-smaller c = omega (arith, c.line_end-at.ensures.lower_bound, c.loop-at-test.true)

pub loop-at-preserved : goal.loop-at-preserved
loop-at-preserved c = let v = c.loop-at in
    let s = c.args.s.now in
    let n : c.note.new.heads ≡ noted (length s) v.at c.read_front-number.result.number v.heads = c.note.ensures in (
      ap length n ∙ noted-length (length s) v.at c.read_front-number.result.number v.heads ∙ v.invariant.0,
      ap (noted_from s (c.line_end-at.result + 1)) n
          ∙ noted-on s v.heads v.at c.read_front-number.result c.line_end-at.result c.read_front-number.ensures c.loop-at-test.true c.line_end-at.ensures.value
          ∙ v.invariant.1,
    )

pub returns : goal.returns
returns c = let a = c.args in
    let v = c.loop-at in
    noted-past a.s.now v.heads v.at c.loop-at-test.false ∙ v.invariant.1
