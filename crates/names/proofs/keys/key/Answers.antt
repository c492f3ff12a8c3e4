use Rattle.std.proofs.Common.{arith, sym}
use borrow.Author.Tests.{eqb-true, eqb-false}
use Rattle.names.proofs.Keyed.{packed-begun, packed-on, packed-fits, packed-ended, no-key-empty, no-key-long, no-key-zero, known_bytes}
use Rattle.names.proofs.keys.key.Goals as goal
use Rattle.names.proofs.keys.key.Goals.{then-is_empty-via-then-is_empty, then-is_empty-via-else-is_empty+then-name-gt7, then-is_empty-via-else-is_empty+else-name-gt7+then-contains}

pub returns-then-is_empty : goal.returns-then-is_empty
returns-then-is_empty c = let w = c.args.name.now in
    elim c.then-is_empty.branch [
      | then-is_empty-via-then-is_empty h ↦ sym (no-key-empty w (eqb-true _ _ (sym h.if-is_empty.ensures)))
      | then-is_empty-via-else-is_empty+then-name-gt7 h ↦ sym (no-key-long w h.if-name-gt7.true)
      | then-is_empty-via-else-is_empty+else-name-gt7+then-contains h ↦
          let z = h.if-contains.ensures.cases in
          sym (no-key-zero w z.0 z.1 (eqb-true _ _ (z.2 0)))
    ]

pub loop-byte-init : goal.loop-byte-init
loop-byte-init c = rw (c.into_iter-byte-iterator.ensures.into_iter_gives, c.rev-byte-items.ensures.source, c.iter.ensures.rest) (packed-begun c.args.name.now)

pub overflow_mul-key : goal.overflow_mul-key
overflow_mul-key c =
    let k = packed-fits _ _ _ _ _ (known_bytes _ c.type_inv.name) c.if-name-gt7.false c.in-Some.ensures.steps c.loop-byte.invariant in
    omega arith

pub overflow_add-key : goal.overflow_add-key
overflow_add-key c =
    let k = packed-fits _ _ _ _ _ (known_bytes _ c.type_inv.name) c.if-name-gt7.false c.in-Some.ensures.steps c.loop-byte.invariant in
    omega (arith, c.lower.type_inv)

pub loop-byte-preserved : goal.loop-byte-preserved
loop-byte-preserved c = packed-on _ _ _ _ _ _ c.in-Some.ensures.steps c.lower.ensures c.loop-byte.invariant

pub returns : goal.returns
returns c = let w = c.args.name.now in
    packed-ended w _ _ (eqb-false _ _ (sym c.if-is_empty.ensures)) c.if-name-gt7.false
    (λ j h. eqb-false _ _ (c.if-contains.ensures.cases j 0 (omega arith) h))
    c.in-None.ensures.steps.0 c.loop-byte.invariant
