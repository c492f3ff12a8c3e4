use Prim.Native.Nat.{◌-◌, ◌<◌}
use mathlib.Core.Path.{◌≡◌, ap, subst, ◌∙◌}
use native.Mathlib.Omega.{arith}
use Rattle.calls.specs.Calls.{check_of, world_of}
use Rattle.entries.specs.declared.Points.{Points}
use Rattle.watched.specs.Answer.{or_else}
use Rattle.watched.proofs.Answering.{long, check-long, denies, stands-for}
use Rattle.watched.proofs.run_points.Goals as goal

pub returns-then-n-gt64 : goal.returns-then-n-gt64
returns-then-n-gt64 c l e = let a = c.args in
    let many = check-long l (long l (subst (λ (p : Points). 64 < p.count) e c.if-n-gt64.true)) in
    rw (c.refused.ensures, c.from.ensures)
    (denies a.m a.ram.now a.journal.now a.budget l c.overfull.result
    (c.overfull.ensures ∙ ap (or_else (check_of (world_of a.m a.ram.now a.journal.now))) many))

pub returns : goal.returns
returns c l e = let a = c.args in
    let z : a.p.count - 0 ≡ a.p.count = omega arith in
    stands-for a.p l a.budget a.m a.ram.now a.journal.now c.run_unmarked.result _ _ e c.if-n-gt64.false (rw z at c.run_unmarked.ensures)
