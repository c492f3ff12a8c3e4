use Rattle.std.proofs.Common.{◌≡◌, Bool, sym, ◌∙◌, arith, length, get_or, ◌-◌, ◌<◌}
use Rattle.std.specs.Char.{is_ascii_digit}
use Rattle.manifests.specs.Manifests.{is_digit}
use Rattle.manifests.proofs.Digits.{read-ends, read-on, digits-stop, digits-past, digits-nine, digit-within, value_room, value_grows}
use Rattle.manifests.proofs.fronts.read_digits.Goals.{then-count-eq-MOST_DIGITS-via-then-count-eq-MOST_DIGITS, then-count-eq-MOST_DIGITS-via-else-count-eq-MOST_DIGITS+then-not-is_ascii_digit}
use Rattle.manifests.proofs.fronts.read_digits.Goals as goal

-- the library's test of a digit is the one of the rules
told : (b : _) (t u : Bool) → t ≡ is_ascii_digit b → t ≡ u → is_digit b ≡ u
told b t u e f = sym e ∙ f

pub returns-then-count-eq-MOST_DIGITS : goal.returns-then-count-eq-MOST_DIGITS
returns-then-count-eq-MOST_DIGITS c =
    let s = c.args.s.now in
    let v = c.loop-count in
    elim c.then-count-eq-MOST_DIGITS.branch [
      | then-count-eq-MOST_DIGITS-via-then-count-eq-MOST_DIGITS w ↦ read-ends s v.count v.value (digits-nine s v.count (omega (arith, w.if-count-eq-MOST_DIGITS.true))) v.invariant.2
      | then-count-eq-MOST_DIGITS-via-else-count-eq-MOST_DIGITS+then-not-is_ascii_digit w ↦
          read-ends s v.count v.value
          (digits-stop s v.count (omega (arith, v.invariant.0, w.if-count-eq-MOST_DIGITS.false)) c.loop-count-test.true
          (told (get_or s v.count 0) _ _ w.is_ascii_digit.ensures.value w.if-not-is_ascii_digit.true))
          v.invariant.2
    ]

pub overflow_mul-value : goal.overflow_mul-value
overflow_mul-value c =
    let v = c.loop-count in
    record { fits = omega (arith, value_room v.value v.count (omega (arith, v.invariant.0, c.if-count-eq-MOST_DIGITS.false)) v.invariant.1) }

pub overflow_add-value : goal.overflow_add-value
overflow_add-value c =
    let v = c.loop-count in
    let b = get_or c.args.s.now v.count 0 in
    let d = digit-within b (told b _ _ c.is_ascii_digit.ensures.value c.if-not-is_ascii_digit.false) in
    record { fits = omega (arith, d.1, c.from.ensures, value_room v.value v.count (omega (arith, v.invariant.0, c.if-count-eq-MOST_DIGITS.false)) v.invariant.1) }

pub loop-count-preserved : goal.loop-count-preserved
loop-count-preserved c =
    let v = c.loop-count in
    let s = c.args.s.now in
    let h : v.count < 9 = omega (arith, v.invariant.0, c.if-count-eq-MOST_DIGITS.false) in
    let e = told (get_or s v.count 0) _ _ c.is_ascii_digit.ensures.value c.if-not-is_ascii_digit.false in
    rw c.from.ensures (
      omega arith,
      value_grows v.value v.count (get_or s v.count 0 - 48) v.invariant.1 (omega (arith, digit-within (get_or s v.count 0) e)),
      read-on s v.count v.value h c.loop-count-test.true e v.invariant.2,
    )

pub returns : goal.returns
returns c =
    let s = c.args.s.now in
    let v = c.loop-count in
    let e : length s ≡ v.count = omega arith in
    rw e (read-ends s v.count v.value (digits-past s v.count (omega arith)) v.invariant.2)
