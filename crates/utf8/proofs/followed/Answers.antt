use Rattle.std.proofs.Common.{◌≡◌, true, false, leb, inl, inr, sym, ◌∙◌, arith, ◌+◌, ◌-◌, ◌*◌, ◌^◌, ◌<◌, ◌≤◌, ℕ, length, get_or}
use native.Mathlib.Nat.{pow-suc, pow-le-pow_right}
use native.Mathlib.Numerals.{add-one}
use borrow.Author.Tests.{le-leb, lt-leb}
use mathlib.Core.Bool.{and-false}
use Rattle.utf8.specs.Utf8.{between}
use Rattle.utf8.proofs.Leads.{followed-on, followed-not}
use Rattle.utf8.proofs.followed.Goals as goal

-- less than 18 bits, before the last of three bytes
room : (v n : ℕ) → n < 3 → v < 32 * 64 ^ n → v < 131072
room v n h g = let m : 64 ^ n ≤ 64 ^ 2 = pow-le-pow_right {n = 64} (omega arith) {i = n} {j = 2} (omega arith) in omega (arith, m)

grown : (v n d : ℕ) → v < 32 * 64 ^ n → d ≤ 63 → v * 64 + d < 32 * 64 ^ (n + 1)
grown v n d h g = rw (add-one n, pow-suc 64 n) (omega arith)

pub returns-then-b-low : goal.returns-then-b-low
returns-then-b-low c =
    let v = c.loop-b in
    let s = c.args.rest.now in
    let b = get_or s v.b-index 0 in
    let e : between v.low v.high b ≡ false = elim c.then-b-low.either [ inl l ↦ rw (lt-leb v.low b l) | inr g ↦ rw (lt-leb b v.high g.1) (and-false (leb v.low b)) ] in
    sym (followed-not (length s + 1) v.point (length s) v.low v.high s v.b-index c.loop-b-test.true e) ∙ v.invariant.0

pub overflow_mul-point : goal.overflow_mul-point
overflow_mul-point c =
    let v = c.loop-b in
    record { fits = omega (arith, room v.point v.b-index (omega (arith, c.requires.few, c.loop-b-test.true)) v.invariant.1) }

pub overflow_add-point : goal.overflow_add-point
overflow_add-point c =
    let v = c.loop-b in
    record { fits = omega (arith, room v.point v.b-index (omega (arith, c.requires.few, c.loop-b-test.true)) v.invariant.1, c.from.ensures) }

pub loop-b-preserved : goal.loop-b-preserved
loop-b-preserved c =
    let v = c.loop-b in
    let s = c.args.rest.now in
    let b = get_or s v.b-index 0 in
    let e : between v.low v.high b ≡ true = rw (le-leb v.low b c.if-b-low.false, le-leb b v.high c.if-high-b.false) in
    rw c.from.ensures (
      sym (followed-on (length s + 1) v.point (length s) v.low v.high s v.b-index c.loop-b-test.true e) ∙ v.invariant.0,
      grown v.point v.b-index (b - 0x80) v.invariant.1 (omega arith),
      omega arith,
      omega arith,
    )
