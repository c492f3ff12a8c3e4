-- "The last bit shifted out": where the machine finds it, and that it is the last. What is said of k is said at any width.
use mathlib.Core.Path.{◌≡◌, refl, ◌∙◌}
use mathlib.Core.Bool.{Bool, true, false, cond, ◌&&◌}
use Prim.Native.Nat.{ℕ, zero, suc, ◌+◌, ◌-◌, ◌*◌, ◌/◌, ◌%◌, ◌^◌, ◌≤◌, ◌<◌, min}
use native.Mathlib.Nat.{div-eq_of_lt}
use native.Mathlib.Omega.{arith}
use borrow.Author.Tests.{lt-ltb, le-leb}
use lib.Dec.{leb}
use Rattle.word.specs.Bits.{bit_at, shl_at, shr_at, shra_at}
use Rattle.word.proofs.Digits.{bit-of}
use Rattle.word.proofs.Shifts.{bit-shr, shl-bits}
use Rattle.alu.specs.Unit.{flags_of, last_out, shl_of, shr_of, shra_of}

-- ---- where it stands afterwards

-- to the left just above the number, in a number of j bits
pub over : (j k a n : ℕ) → a < 2 ^ k → k < j → n ≤ k → bit_at (a * 2 ^ n % 2 ^ j) k ≡ last_out a n (k - n)
over j k a n l w h = rw (shl-bits j a n, bit-of j (λ i. leb n i && bit_at a (i - n)) k w, le-leb n k h) (some n)
  where
    some : (n : ℕ) → bit_at a (k - n) ≡ last_out a n (k - n)
    some zero =
        let e : k - 0 ≡ k = omega arith in
        rw (e, div-eq_of_lt l)
    some (suc m) = rw (lt-ltb 0 (suc m) (omega arith))

-- to the right just below it, so that the doubled number has it lowest
pub under : (a n : ℕ) → bit_at (a * 2) n ≡ last_out a n (n - 1)
under a zero =
    let e : a * 2 / 2 ^ 0 % 2 ≡ 0 = omega arith in
    rw e
under a (suc m) =
    let s : suc m ≡ m + 1 = omega arith in
    let p : suc m - 1 ≡ m = omega arith in
    let e : a * 2 / 2 ^ 1 ≡ a = omega arith in
    let d : bit_at (a * 2) (suc m) ≡ bit_at a m = rw (s, ← bit-shr (a * 2) 1 m, e) in
    d ∙ rw (lt-ltb 0 (suc m) (omega arith), p)

-- ---- of n + 1 bits the last is the one at the end of what a shift by n leaves

left : (k a n : ℕ) → n < k → last_out a (suc n) (k - suc n) ≡ bit_at (shl_at k a n) (k - 1)
left k a n h =
    let e : k - suc n ≡ k - 1 - n = omega arith in
    rw (lt-ltb 0 (suc n) (omega arith), bit-of k (λ i. leb n i && bit_at a (i - n)) (k - 1) (omega arith), le-leb n (k - 1) (omega arith), e)

right : (k a n : ℕ) → n < k → last_out a (suc n) (suc n - 1) ≡ bit_at (shr_at k a n) 0
right k a n h =
    let e : suc n - 1 ≡ 0 + n = omega arith in
    rw (lt-ltb 0 (suc n) (omega arith), bit-of k (λ i. bit_at a (i + n)) 0 (omega arith), e)

right-signed : (k a n : ℕ) → n < k → last_out a (suc n) (suc n - 1) ≡ bit_at (shra_at k a n) 0
right-signed k a n h =
    let e : suc n - 1 ≡ min (0 + n) (k - 1) = omega arith in
    rw (lt-ltb 0 (suc n) (omega arith), bit-of k (λ i. bit_at a (min (i + n) (k - 1))) 0 (omega arith), e)

-- ---- so of the answers: c, which is bit 5 of the flags, goes by the end of the value that a shift by one less gives

low : (b : Bool) → cond b (2 ^ 4) 0 < 2 ^ 5
low true = omega arith
low false = omega arith

high : (b : Bool) (p : ℕ) → p % 2 ^ 6 ≡ 0 → cond b p 0 % 2 ^ 6 ≡ 0
high true p h = h
high false p h = refl

carry : (z c s o : Bool) → bit_at (flags_of z c s o) 5 ≡ c
carry z c s o = go c (cond z (2 ^ 4) 0) (cond s (2 ^ 6) 0) (cond o (2 ^ 7) 0) (low z) (high s (2 ^ 6) refl) (high o (2 ^ 7) refl)
  where
    go : (c : Bool) (p q r : ℕ) → p < 2 ^ 5 → q % 2 ^ 6 ≡ 0 → r % 2 ^ 6 ≡ 0 → bit_at (p + cond c (2 ^ 5) 0 + q + r) 5 ≡ c
    go true p q r l m n =
        let e : (p + 2 ^ 5 + q + r) / 2 ^ 5 % 2 ≡ 1 = omega arith in
        rw e
    go false p q r l m n =
        let e : (p + 0 + q + r) / 2 ^ 5 % 2 ≡ 0 = omega arith in
        rw e

pub shl-last : (a n : ℕ) → n < 16 → bit_at (shl_of a (suc n)).flags 5 ≡ bit_at (shl_of a n).value 15
unfolding shl_of
shl-last a n h = rw carry (left 16 a n h)

pub shr-last : (a n : ℕ) → n < 16 → bit_at (shr_of a (suc n)).flags 5 ≡ bit_at (shr_of a n).value 0
unfolding shr_of
shr-last a n h = rw carry (right 16 a n h)

pub shra-last : (a n : ℕ) → n < 16 → bit_at (shra_of a (suc n)).flags 5 ≡ bit_at (shra_of a n).value 0
unfolding shra_of
shra-last a n h = rw carry (right-signed 16 a n h)
