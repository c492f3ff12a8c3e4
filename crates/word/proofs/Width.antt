-- What holds of a number's halves, and of sums and differences modulo 2^k, at any width k.
use Rattle.std.proofs.Common.{◌≡◌, ℕ, ◌+◌, ◌-◌, ◌*◌, ◌/◌, ◌%◌, ◌^◌, ◌<◌, ◌≤◌, ◌∙◌, mod-lt, mod-eq_of_lt, add_comm, arith, pow_pos, pow-add, shr_lt}
use native.Mathlib.Nat.{mod-add-mod, add-mod_right}
use lib.Arith.{digits_lt}
use lib.Pow.{split, high, low}
use Rattle.word.specs.Word.{plus_at, minus_at, join_at, low_at, high_at}

-- the halves of a number make it again
pub join-split : (k w : ℕ) → join_at k (low_at k w) (high_at k w) ≡ w
join-split k w = add_comm (w % 2 ^ k) (w / 2 ^ k * 2 ^ k) ∙ split w k

-- the halves of what two numbers make are those numbers
pub low-join : (k : ℕ) {l : ℕ} (h : ℕ) → l < 2 ^ k → low_at k (join_at k l h) ≡ l
low-join k {l} h b = rw (add_comm l (h * 2 ^ k)) (low h k b)

pub high-join : (k : ℕ) {l : ℕ} (h : ℕ) → l < 2 ^ k → high_at k (join_at k l h) ≡ h
high-join k {l} h b = rw (add_comm l (h * 2 ^ k)) (high h k b)

-- their bounds
pub low_below : (k w : ℕ) → low_at k w < 2 ^ k
low_below k w = mod-lt w (pow_pos k)

pub high-below : (j k : ℕ) {w : ℕ} → w < 2 ^ (j + k) → high_at k w < 2 ^ j
high-below j k b = shr_lt j k b

pub join-below : (j k : ℕ) {l h : ℕ} → l < 2 ^ k → h < 2 ^ j → join_at k l h < 2 ^ (j + k)
join-below j k {l} {h} b c = rw (add_comm l (h * 2 ^ k), pow-add 2 j k) (digits_lt c b)

pub plus-below : (k a b : ℕ) → plus_at k a b < 2 ^ k
plus-below k a b = mod-lt (a + b) (pow_pos k)

pub minus-below : (k a b : ℕ) → minus_at k a b < 2 ^ k
minus-below k a b = mod-lt (a + (2 ^ k - b)) (pow_pos k)

-- a number that is added and taken away, either way round, leaves what was there
module _ (k : ℕ) {a b : ℕ} (ha : a < 2 ^ k) (hb : b ≤ 2 ^ k) where
  pub minus_plus : minus_at k (plus_at k a b) b ≡ a
  minus_plus =
      let s : a + b + (2 ^ k - b) ≡ a + 2 ^ k = omega arith in
      mod-add-mod (a + b) (2 ^ k) (2 ^ k - b) ∙ rw (s, add-mod_right a (2 ^ k)) (mod-eq_of_lt ha)

  pub plus-minus : plus_at k (minus_at k a b) b ≡ a
  plus-minus =
      let s : a + (2 ^ k - b) + b ≡ a + 2 ^ k = omega arith in
      mod-add-mod (a + (2 ^ k - b)) (2 ^ k) b ∙ rw (s, add-mod_right a (2 ^ k)) (mod-eq_of_lt ha)
