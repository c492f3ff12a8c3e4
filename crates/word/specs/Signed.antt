-- "Signed arithmetic uses two's complement representation."
use Rattle.std.specs.Prelude.{ℕ, ◌-◌, ◌^◌, Bool, cond, not, ◌&&◌, ℤ, pos, ◌+ℤ◌, ◌-ℤ◌, neg_ℤ, int_le, int_lt, nat_lt}
use Rattle.std.proofs.Math.IntN.{sub_ℕ}

-- the integer that a number of k bits stands for: the upper half of the numbers stands for the negative ones
abbrev pub signed_at : ℕ → ℕ → ℤ
signed_at k w = cond (nat_lt w (2 ^ (k - 1))) (pos w) (sub_ℕ w (2 ^ k))

-- an integer that k bits hold: from -2^(k-1) to 2^(k-1) - 1
abbrev pub holds_at : ℕ → ℤ → Bool
holds_at k z = int_le (neg_ℤ (pos (2 ^ (k - 1)))) z && int_lt z (pos (2 ^ (k - 1)))

-- "a signed overflow occurs": k bits do not hold the sum, the difference
abbrev pub sum_overflows : ℕ → ℕ → ℕ → Bool
sum_overflows k a b = not (holds_at k (signed_at k a +ℤ signed_at k b))

abbrev pub difference_overflows : ℕ → ℕ → ℕ → Bool
difference_overflows k a b = not (holds_at k (signed_at k a -ℤ signed_at k b))

-- "as signed integers .. less or equal", "less"
abbrev pub signed_at_most : ℕ → ℕ → ℕ → Bool
signed_at_most k a b = int_le (signed_at k a) (signed_at k b)

abbrev pub signed_below : ℕ → ℕ → ℕ → Bool
signed_below k a b = int_lt (signed_at k a) (signed_at k b)
