-- Numbers of k bits: a byte is one of 8, a word one of 16. Each definition is over the width k; an address is a word.
use Rattle.std.specs.Prelude.{ℕ, ◌+◌, ◌-◌, ◌*◌, ◌/◌, ◌%◌, ◌^◌}

-- "every address sum and pc increment is taken modulo 65,536": the sum and the difference of two numbers modulo 2^k
abbrev pub plus_at : ℕ → ℕ → ℕ → ℕ
plus_at k a b = (a + b) % 2 ^ k

abbrev pub minus_at : ℕ → ℕ → ℕ → ℕ
minus_at k a b = (a + (2 ^ k - b)) % 2 ^ k

-- "every address sum .. is taken modulo 65,536", "the second address is the first plus 1 modulo 65,536"
abbrev pub above : ℕ → ℕ
above a = plus_at 16 a 1

-- "Low byte first": the number whose low k bits are l and whose other bits are h
abbrev pub join_at : ℕ → ℕ → ℕ → ℕ
join_at k l h = l + h * 2 ^ k

-- the low k bits of a number, and its other bits
abbrev pub low_at : ℕ → ℕ → ℕ
low_at k w = w % 2 ^ k

abbrev pub high_at : ℕ → ℕ → ℕ
high_at k w = w / 2 ^ k
