-- And, or, exclusive or and inversion, as the machine computes them, go bit by bit.
use Rattle.std.proofs.Common.{◌≡◌, ℕ, zero, suc, ◌+◌, ◌-◌, ◌*◌, ◌/◌, ◌%◌, ◌^◌, ◌<◌, min, max, Bool, true, false, cond, not, ◌&&◌, ◌||◌, eqb, refl, ◌∙◌, mod-eq_of_lt, pow-suc, arith}
use mathlib.Core.Bool.{xor}
use lib.Bits.{bit_and, bit_or, bit_xor, differ, and_step, or_step, xor_step, and_shr, or_shr, xor_shr, and_lt, or_lt, xor_lt}
use Rattle.word.specs.Bits.{bit_at, from_bits, and_at, or_at, xor_at, not_at}
use Rattle.word.proofs.Digits.{two, by_bits, bits-low}

-- An operation whose lowest digit is `digit` of the lowest digits, and which commutes with halving, has bit i `test` of the bits i.
module _ (op digit : ℕ → ℕ → ℕ) (test : Bool → Bool → Bool)
    (halved : (a b k : ℕ) → op a b / 2 ^ k ≡ op (a / 2 ^ k) (b / 2 ^ k))
    (step : (a b : ℕ) → op a b ≡ op (a / 2) (b / 2) * 2 + digit (a % 2) (b % 2))
    (fits : (k a b : ℕ) → a < 2 ^ k → b < 2 ^ k → op a b < 2 ^ k)
    (small : (p q : ℕ) → p < 2 → q < 2 → digit p q < 2)
    (rule : (p q : ℕ) → p < 2 → q < 2 → eqb (digit p q) 1 ≡ test (eqb p 1) (eqb q 1))
  where
    lowest : (a b : ℕ) → op a b % 2 ≡ digit (a % 2) (b % 2)
    lowest a b = let s = small (a % 2) (b % 2) (omega arith) (omega arith) in omega (arith, step a b)

    bit-op : (a b i : ℕ) → bit_at (op a b) i ≡ test (bit_at a i) (bit_at b i)
    bit-op a b i =
        rw (halved a b i, lowest (a / 2 ^ i) (b / 2 ^ i)) (rule (a / 2 ^ i % 2) (b / 2 ^ i % 2) (omega arith) (omega arith))

    pub bitwise : (k a b : ℕ) → a < 2 ^ k → b < 2 ^ k → op a b ≡ from_bits k (λ i. test (bit_at a i) (bit_at b i))
    bitwise k a b ha hb = by_bits k (λ i. test (bit_at a i) (bit_at b i)) (fits k a b ha hb) (λ i l. bit-op a b i)

pub and-bits : (k a b : ℕ) → a < 2 ^ k → b < 2 ^ k → bit_and a b ≡ and_at k a b
and-bits =
    bitwise bit_and min ◌&&◌ and_shr and_step and_lt
    (two (λ p q. min p q < 2) (omega arith) (omega arith) (omega arith) (omega arith))
    (two (λ p q. eqb (min p q) 1 ≡ (eqb p 1 && eqb q 1)) refl refl refl refl)

pub or-bits : (k a b : ℕ) → a < 2 ^ k → b < 2 ^ k → bit_or a b ≡ or_at k a b
or-bits =
    bitwise bit_or max ◌||◌ or_shr or_step or_lt
    (two (λ p q. max p q < 2) (omega arith) (omega arith) (omega arith) (omega arith))
    (two (λ p q. eqb (max p q) 1 ≡ (eqb p 1 || eqb q 1)) refl refl refl refl)

pub xor-bits : (k a b : ℕ) → a < 2 ^ k → b < 2 ^ k → bit_xor a b ≡ xor_at k a b
unfolding xor
xor-bits =
    bitwise bit_xor differ xor xor_shr xor_step xor_lt
    (two (λ p q. differ p q < 2) (omega arith) (omega arith) (omega arith) (omega arith))
    (two (λ p q. eqb (differ p q) 1 ≡ xor (eqb p 1) (eqb q 1)) refl refl refl refl)

-- ---- inversion

one_of : (b : Bool) (p : ℕ) → cond b p 0 + cond (not b) p 0 ≡ p
one_of true p = omega arith
one_of false p = omega arith

complement : (k : ℕ) (f : ℕ → Bool) → from_bits k f + from_bits k (λ i. not (f i)) + 1 ≡ 2 ^ k
unfolding from_bits
complement zero f = omega arith
complement (suc k) f = omega (arith, complement k f, one_of (f k) (2 ^ k), pow-suc 2 k)

pub not-bits : (k a : ℕ) → a < 2 ^ k → 2 ^ k - 1 - a ≡ not_at k a
not-bits k a h = omega (arith, complement k (bit_at a), bits-low k a ∙ mod-eq_of_lt h)
