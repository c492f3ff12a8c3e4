use Prim.Native.Nat.{◌+◌, ◌-◌, ◌*◌, ◌≤◌, ◌<◌}
use mathlib.Core.Path.{sym, ◌∙◌}
use native.Mathlib.Omega.{arith}
use lib.Dec.{eqb}
use Rattle.names.specs.Names.{PC}
use Rattle.bus.specs.State.{word}
use Rattle.entries.specs.Entries.{met_at, meets}
use Rattle.watching.proofs.Turns.{sought-some, sought-met, sought-none, stored-some, stored-none, halts, ends, breaks, goes_on, catches, caught-names}
use Rattle.watching.proofs.advance.Goals as goal

pub loop-halted-preserved : goal.loop-halted-preserved
loop-halted-preserved c = let list = c.args.list.now in
    let r = c.recorded_step-r.result in
    let l : 0 < c.loop-halted.left = omega (arith, c.if-left-eq0.false) in
    let b : c.loop-halted.bus + r.bus + 255 * (c.loop-halted.left - 1) ≤ 255 * c.args.budget =
    omega (arith, c.loop-halted.invariant.1, c.if-left-eq0.false, c.recorded_step-r.type_inv)
    in
    let n : c.loop-halted.left - 1 ≤ c.args.budget = omega (arith, c.loop-halted.invariant.0) in
    let stands = c.if-halted.false in
    let went = sought-none (eqb c.loop-halted.left c.args.budget) (meets (met_at 1 1 (word c.loop-halted.regs PC))) list
    (sym c.in_default.is ∙ (rw c.met-reached.ensures at c.sought.ensures))
    in
    let unmet = stored-none c.args.board.stretch _ r.count r.first list _ c.landed-stored.ensures
    (sym c.in_default-sought.is ∙ c.sought-in-loop-halted.ensures)
    in (
      n,
      b,
      (λ tells. goes_on _ _ _ _ _ _
          (c.loop-halted.invariant.2 tells) stands l c.loop-halted.invariant.0 went r _ _ _ _
          (c.recorded_step-r.ensures tells) unmet),
      c.recorded_step-r.auto.ram ∙ c.loop-halted.invariant.3,
      c.recorded_step-r.auto.journal ∙ c.loop-halted.invariant.4,
    )

pub returns-then-halted : goal.returns-then-halted
returns-then-halted c = record { whole_run = (λ tells. rw (c.tells-told.ensures, c.met.ensures) (halts _ _ _ _ _ _ (c.loop-halted.invariant.2 tells) c.if-halted.true)); names = rw c.tells-told.ensures }

pub returns-then-left-eq0 : goal.returns-then-left-eq0
returns-then-left-eq0 c = record {
  whole_run = (λ tells. rw (c.tells-told-then-left-eq0.ensures, c.met-then-left-eq0.ensures)
      (ends _ _ _ _ _ _ (c.loop-halted.invariant.2 tells) c.if-halted.false c.if-left-eq0.true));
  names = rw c.tells-told-then-left-eq0.ensures;
}

pub returns-in-Some : goal.returns-in-Some
returns-in-Some c = let list = c.args.list.now in
    let s = eqb c.loop-halted.left c.args.budget in
    let f = meets (met_at 1 1 (word c.loop-halted.regs PC)) in
    let e = sym c.in-Some.is ∙ (rw c.met-reached.ensures at c.sought.ensures) in
    let q = sought-some s f list c.in-Some.i e in
    record {
      whole_run = (λ tells. rw (c.tells-told-in-Some.ensures, c.met-reached.ensures)
          (breaks _ _ _ _ _ _ (c.loop-halted.invariant.2 tells) c.if-halted.false (omega (arith, c.if-left-eq0.false)) (sought-met s f list c.in-Some.i e)));
      names = rw (c.tells-told-in-Some.ensures, c.met-reached.ensures) q.2;
    }

pub returns-in-Some-sought : goal.returns-in-Some-sought
returns-in-Some-sought c = let list = c.args.list.now in
    let r = c.recorded_step-r.result in
    let stood = c.if-halted.false in
    let l : 0 < c.loop-halted.left = omega (arith, c.if-left-eq0.false) in
    let went = sought-none (eqb c.loop-halted.left c.args.budget) (meets (met_at 1 1 (word c.loop-halted.regs PC))) list
    (sym c.in_default.is ∙ (rw c.met-reached.ensures at c.sought.ensures))
    in
    let q = stored-some c.args.board.stretch _ r.count r.first list _ c.landed-stored.ensures c.in-Some-sought.k
    (sym c.in-Some-sought.is ∙ c.sought-in-loop-halted.ensures)
    in
    record {
      whole_run = (λ tells. rw (c.caught-told.ensures, q.0)
          (catches _ _ _ _ _ _
          (c.loop-halted.invariant.2 tells) stood l c.loop-halted.invariant.0 went r _ _ _ _
          (c.recorded_step-r.ensures tells) _ q.1));
      names = rw c.caught-told.ensures
          (caught-names (c.args.budget - (c.loop-halted.left - 1)) (c.loop-halted.bus + r.bus) _ c.landed-stored.result _ r.board.halted q.2);
    }
