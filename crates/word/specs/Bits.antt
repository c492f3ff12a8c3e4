-- The bits of a number, and the operations that are told bit by bit. Bit 0 is the lowest.
use Rattle.std.specs.Prelude.{ℕ, zero, suc, ◌+◌, ◌-◌, ◌/◌, ◌%◌, ◌^◌, min, Bool, cond, not, ◌&&◌, ◌||◌, ◌==◌, nat_le}
use Rattle.std.specs.Bool.{xor}

-- bit i of w is 1
abbrev pub bit_at : ℕ → ℕ → Bool
bit_at w i = w / 2 ^ i % 2 == 1

-- the number of k bits whose bit i is f i
unfoldable pub from_bits : ℕ → (ℕ → Bool) → ℕ
from_bits zero f = 0
from_bits (suc k) f = from_bits k f + cond (f k) (2 ^ k) 0

-- "the binary AND", "the binary OR", "the binary XOR" of two numbers of k bits
abbrev pub and_at : ℕ → ℕ → ℕ → ℕ
and_at k a b = from_bits k (λ i. bit_at a i && bit_at b i)

abbrev pub or_at : ℕ → ℕ → ℕ → ℕ
or_at k a b = from_bits k (λ i. bit_at a i || bit_at b i)

abbrev pub xor_at : ℕ → ℕ → ℕ → ℕ
xor_at k a b = from_bits k (λ i. xor (bit_at a i) (bit_at b i))

-- "Inverts all bits of the value"
abbrev pub not_at : ℕ → ℕ → ℕ
not_at k a = from_bits k (λ i. not (bit_at a i))

-- "Reverses the order of bits of the value"
abbrev pub rev_at : ℕ → ℕ → ℕ
rev_at k a = from_bits k (λ i. bit_at a (k - 1 - i))

-- "to the left (adding zeros at the right)" by n bits
abbrev pub shl_at : ℕ → ℕ → ℕ → ℕ
shl_at k a n = from_bits k (λ i. nat_le n i && bit_at a (i - n))

-- "to the right (adding zeros at the left)": above the highest bit of a number of k bits stand zeros
abbrev pub shr_at : ℕ → ℕ → ℕ → ℕ
shr_at k a n = from_bits k (λ i. bit_at a (i + n))

-- "to the right, setting the shifted-from bits at the left to the value of the sign (highest) bit"
abbrev pub shra_at : ℕ → ℕ → ℕ → ℕ
shra_at k a n = from_bits k (λ i. bit_at a (min (i + n) (k - 1)))
