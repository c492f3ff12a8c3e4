-- A number of k bits is told by its bits, and each choice of bits makes one.
use Rattle.std.proofs.Common.{◌≡◌, ℕ, zero, suc, ◌+◌, ◌-◌, ◌*◌, ◌/◌, ◌%◌, ◌^◌, ◌<◌, ◌≤◌, Bool, true, false, cond, eqb, ltb, sym, refl, ◌∙◌, add-zero, mod-eq_of_lt, add_comm, pow-suc, arith, pow_pos, ltb-false, ltb-true}
use native.Mathlib.Nat.{add-mod_right, add-div_right, div-eq_of_lt}
use lib.Pow.{mod-pow-add, mod-mod-pow, field}
use Rattle.word.specs.Bits.{bit_at, from_bits}

-- a statement of two digits holds of all if it holds of the four pairs
pub two : (P : ℕ → ℕ → Type 0) → P 0 0 → P 0 1 → P 1 0 → P 1 1 → (p q : ℕ) → p < 2 → q < 2 → P p q
two P a b c d zero zero h l = a
two P a b c d zero (suc zero) h l = b
two P a b c d (suc zero) zero h l = c
two P a b c d (suc zero) (suc zero) h l = d
two P a b c d zero (suc (suc q)) h l = absurd (omega arith)
two P a b c d (suc zero) (suc (suc q)) h l = absurd (omega arith)
two P a b c d (suc (suc p)) q h l = absurd (omega arith)

-- a digit's weight
pub weighed : (d p : ℕ) → d < 2 → cond (eqb d 1) p 0 ≡ d * p
weighed zero p h = omega arith
weighed (suc zero) p h = omega arith
weighed (suc (suc d)) p h = absurd (omega arith)

cond-le : (b : Bool) (p : ℕ) → cond b p 0 ≤ p
cond-le true p = omega arith
cond-le false p = omega arith

pub below : (k : ℕ) (f : ℕ → Bool) → from_bits k f < 2 ^ k
unfolding from_bits
below zero f = omega arith
below (suc k) f = omega (arith, below k f, cond-le (f k) (2 ^ k), pow-suc 2 k)

pub ext : (k : ℕ) (f g : ℕ → Bool) → ((i : ℕ) → i < k → f i ≡ g i) → from_bits k f ≡ from_bits k g
unfolding from_bits
ext zero f g h = refl
ext (suc k) f g h =
    let e = h k (omega arith) in
    rw (ext k f g (λ i l. h i (omega arith)), e)

-- the low k bits of a number make what is left of it below 2^k
pub bits-low : (k w : ℕ) → from_bits k (bit_at w) ≡ w % 2 ^ k
unfolding from_bits
bits-low zero w = omega arith
bits-low (suc k) w =
    let e : 1 + k ≡ suc k = omega arith in
    let m = rw e at (mod-pow-add w 1 k) in
    rw (bits-low k w, weighed (w / 2 ^ k % 2) (2 ^ k) (omega arith), m) (add_comm (w % 2 ^ k) (w / 2 ^ k % 2 * 2 ^ k))

-- so a number of k bits is what its bits make
pub by_bits : (k : ℕ) {w : ℕ} (f : ℕ → Bool) → w < 2 ^ k → ((i : ℕ) → i < k → bit_at w i ≡ f i) → w ≡ from_bits k f
by_bits k {w} f h b = sym (bits-low k w ∙ mod-eq_of_lt h) ∙ ext k (bit_at w) f b

-- what is cut above bit i leaves bit i
pub bit-low : (k x i : ℕ) → i < k → bit_at (x % 2 ^ k) i ≡ bit_at x i
bit-low k x i h =
    let e : k - i - 1 + 1 + i ≡ k = omega arith in
    let f = rw e at (field x (k - i - 1 + 1) i) in
    rw (f, mod-mod-pow (x / 2 ^ i) (k - i - 1) 1)

-- one bit more, above the others
bit_below : (k x i : ℕ) (b : Bool) → x < 2 ^ k → i < k → bit_at (x + cond b (2 ^ k) 0) i ≡ bit_at x i
bit_below k x i true h l = sym (bit-low k (x + 2 ^ k) i l) ∙ rw (add-mod_right x (2 ^ k), mod-eq_of_lt h)
bit_below k x i false h l = rw add-zero

bit-top : (k x : ℕ) (b : Bool) → x < 2 ^ k → bit_at (x + cond b (2 ^ k) 0) k ≡ b
bit-top k x true h = rw (add-div_right x (pow_pos k), div-eq_of_lt h)
bit-top k x false h = rw (add-zero, div-eq_of_lt h)

-- the bits of what bits make are those bits
pub bit-of : (k : ℕ) (f : ℕ → Bool) (i : ℕ) → i < k → bit_at (from_bits k f) i ≡ f i
unfolding from_bits
bit-of zero f i h = absurd (omega arith)
bit-of (suc k) f i h = go (bit-of k f i) (ltb i k) refl
  where
    go : (i < k → bit_at (from_bits k f) i ≡ f i) → (b : Bool) → ltb i k ≡ b → bit_at (from_bits k f + cond (f k) (2 ^ k) 0) i ≡ f i
    go r true e = let l = ltb-true i k e in bit_below k (from_bits k f) i (f k) (below k f) l ∙ r l
    go r false e =
        let l = ltb-false i k e in
        let s : i ≡ k = omega arith in
        rw s (bit-top k (from_bits k f) (f k) (below k f))
