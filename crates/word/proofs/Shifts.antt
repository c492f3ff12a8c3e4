-- The three shifts, as the machine computes them, move bits.
use Rattle.std.proofs.Common.{◌≡◌, ℕ, suc, ◌+◌, ◌-◌, ◌*◌, ◌/◌, ◌%◌, ◌^◌, ◌<◌, ◌≤◌, min, Bool, true, false, not, ◌&&◌, leb, refl, ap, ◌∙◌, lt_of_lt_of_le, lt_of_le_of_lt, mod-lt, mul_assoc, add_comm, div-le_self, arith, pow_pos, pow_mono, pow-add, shr-shr, leb-false, leb-true}
use mathlib.Core.Bool.{not-not}
use native.Mathlib.Nat.{div-eq_of_lt}
use lib.Bits.{shifted_even}
use lib.Pow.{shl-shr}
use Rattle.word.specs.Bits.{bit_at, shl_at, shr_at, shra_at}
use Rattle.word.proofs.Digits.{by_bits, ext, bit-low, bit-of}
use Rattle.word.proofs.Bitwise.{not-bits}

-- ---- to the right

pub bit-shr : (a n i : ℕ) → bit_at (a / 2 ^ n) i ≡ bit_at a (i + n)
bit-shr a n i = rw (shr-shr a n i, add_comm n i)

pub shr-bits : (k a n : ℕ) → a < 2 ^ k → a / 2 ^ n ≡ shr_at k a n
shr-bits k a n h = by_bits k (λ i. bit_at a (i + n)) (lt_of_le_of_lt (div-le_self a (2 ^ n)) h) (λ i l. bit-shr a n i)

-- ---- to the left

bit-shl : (a n i : ℕ) → bit_at (a * 2 ^ n) i ≡ (leb n i && bit_at a (i - n))
bit-shl a n i = go (leb n i) refl
  where
    go : (b : Bool) → leb n i ≡ b → bit_at (a * 2 ^ n) i ≡ (b && bit_at a (i - n))
    go true e =
        let h = leb-true n i e in
        let s : n + (i - n) ≡ i = omega arith in
        let d = rw (s, shl-shr) at (shr-shr (a * 2 ^ n) n (i - n)) in
        rw (← d)
    go false e =
        let h = leb-false n i e in
        let s : suc (n - i - 1) + i ≡ n = omega arith in
        let p = rw s at (pow-add 2 (suc (n - i - 1)) i) in
        rw (p, ← mul_assoc a (2 ^ suc (n - i - 1)) (2 ^ i), shl-shr, shifted_even a (n - i - 1))

pub shl-bits : (k a n : ℕ) → a * 2 ^ n % 2 ^ k ≡ shl_at k a n
shl-bits k a n =
    by_bits k (λ i. leb n i && bit_at a (i - n)) (mod-lt (a * 2 ^ n) (pow_pos k)) (λ i l. bit-low k (a * 2 ^ n) i l ∙ bit-shl a n i)

-- ---- to the right with the sign

-- a number below 2^h has no bit at h or above, so that reading bit h there is as good
clipped : (h a j : ℕ) → a < 2 ^ h → bit_at a j ≡ bit_at a (min j h)
clipped h a j l = go (leb j h) refl
  where
    none : (i : ℕ) → h ≤ i → bit_at a i ≡ false
    none i m = rw (div-eq_of_lt (lt_of_lt_of_le l (pow_mono m)))

    go : (b : Bool) → leb j h ≡ b → bit_at a j ≡ bit_at a (min j h)
    go true e =
        let m = leb-true j h e in
        let s : min j h ≡ j = omega arith in
        rw s
    go false e =
        let m = leb-false j h e in
        let s : min j h ≡ h = omega arith in
        rw (s, none h (omega arith)) (none j (omega arith))

pub shra-low : (k a n : ℕ) → a < 2 ^ (k - 1) → a / 2 ^ n ≡ shra_at k a n
shra-low k a n h =
    let m : k - 1 ≤ k = omega arith in
    by_bits k (λ i. bit_at a (min (i + n) (k - 1))) (lt_of_le_of_lt (div-le_self a (2 ^ n)) (lt_of_lt_of_le h (pow_mono m)))
    (λ i l. bit-shr a n i ∙ clipped (k - 1) a (i + n) h)

-- a negative number goes by its complement
pub shra-high : (k a n : ℕ) → 2 ^ k - 1 - a < 2 ^ (k - 1) → a < 2 ^ k → 0 < k → 2 ^ k - 1 - (2 ^ k - 1 - a) / 2 ^ n ≡ shra_at k a n
shra-high k a n h l p =
    let b : ℕ = 2 ^ k - 1 - a in
    let lb : b < 2 ^ k = omega (arith, pow_pos k) in
    not-bits k (b / 2 ^ n) (lt_of_le_of_lt (div-le_self b (2 ^ n)) lb)
    ∙ ext k (λ i. not (bit_at (b / 2 ^ n) i)) (λ i. bit_at a (min (i + n) (k - 1)))
    (λ i m. ap not (bit-shr b n i ∙ clipped (k - 1) b (i + n) h) ∙ turned k a (min (i + n) (k - 1)) l (omega arith))
  where
    turned : (k a j : ℕ) → a < 2 ^ k → j < k → not (bit_at (2 ^ k - 1 - a) j) ≡ bit_at a j
    turned k a j l m =
        rw (not-bits k a l, bit-of k (λ i. not (bit_at a i)) j m) (not-not (bit_at a j))
