use Prim.Native.Nat.{◌+◌, ◌≤◌}
use mathlib.Core.Path.{◌≡◌, sym, ◌∙◌}
use mathlib.Core.Bool.{cond}
use native.Mathlib.Omega.{arith}
use lib.ListN.{length, drop}
use Rattle.utf8.specs.Utf8.{letter, letter_of}
use Rattle.utf8.specs.Latin.{judged_of}
use Rattle.std.specs.Prelude.{Ok, Err}
use Rattle.utf8.specs.declared.Unfit.TheVariants.{NotLatin}
use Rattle.utf8.proofs.Reading.{moves-on, stays_within}
use Rattle.utf8.proofs.Judging.{at_first, at-letter, at-bad, at_last}
use Rattle.utf8.proofs.judge.Goals as goal
use Rattle.utf8.proofs.judge.Goals.{After-loop-i, In-Some}

-- the letter that was read
read : (c : In-Some)
    → letter_of (drop c.loop-i.i c.args.name.now) ≡ letter c.in-Some.letter.point c.in-Some.letter.length
read c = sym c.letter_at.ensures ∙ c.in-Some.is

within : (c : In-Some)
    → let m = c.in-Some.letter.length in
    (1 ≤ m) × (c.loop-i.i + m ≤ length c.args.name.now)
within c =
    let s = c.args.name.now in
    (moves-on s c.loop-i.i _ _ (read c), stays_within s c.loop-i.i _ _ (read c))

-- past the last letter
past : (c : After-loop-i)
    → cond c.loop-i.latin (Ok c.loop-i.n) (Err NotLatin) ≡ judged_of c.args.name.now
past c =
    let l = c.loop-i in
    sym (at_last c.args.name.now l.i l.latin l.n (omega arith)) ∙ l.invariant.2

pub loop-i-init : goal.loop-i-init
loop-i-init c = (omega arith, omega arith, at_first c.args.name.now)

pub returns-in_default : goal.returns-in_default
returns-in_default c = let l = c.loop-i in
    sym (at-bad c.args.name.now l.i l.latin l.n (omega arith) (sym c.letter_at.ensures ∙ c.in_default.is))
    ∙ l.invariant.2

pub overflow_add-n : goal.overflow_add-n
overflow_add-n c = omega (arith, within (goal.at.overflow_add-n c).In-Some, c.loop-i.invariant.0)

pub overflow_add-i : goal.overflow_add-i
overflow_add-i c = omega (arith, within (goal.at.overflow_add-i c).In-Some)

pub loop-i-smaller : goal.loop-i-smaller
loop-i-smaller c = omega (arith, within (goal.at.loop-i-smaller c).In-Some)

pub loop-i-preserved : goal.loop-i-preserved
loop-i-preserved c = let l = c.loop-i in (
  omega (arith, within (goal.at.loop-i-preserved c).In-Some, l.invariant.0),
  (within (goal.at.loop-i-preserved c).In-Some).1,
  sym (at-letter c.args.name.now l.i l.latin l.n c.in-Some.letter.point c.in-Some.letter.length (read (goal.at.loop-i-preserved c).In-Some)) ∙ l.invariant.2,
)

pub returns-then-latin : goal.returns-then-latin
returns-then-latin c = rw c.if-latin.true at (past (goal.at.returns-then-latin c).After-loop-i)

pub returns : goal.returns
returns c = rw c.if-latin.false at (past (goal.at.returns c).After-loop-i)
