-- Bytes as letters, digits and blanks.
use Rattle.std.specs.Prelude.{ℕ, ◌+◌, ◌-◌, Bool, cond, ◌&&◌, ◌||◌, eqb, leb, Option, Some, None}

-- "Letters, except in string constant, are case insensitive"
unfoldable pub lower : ℕ → ℕ
lower b = cond (leb 65 b && leb b 90) (b + 32) b

-- "horizontal tab (ASCII 9, which is equivalent to a single space)"
unfoldable pub blank : ℕ → Bool
blank b = eqb b 32 || eqb b 9

-- "letters, digits, and underscores"
unfoldable pub wordy : ℕ → Bool
wordy b = (leb 97 b && leb b 122) || (leb 65 b && leb b 90) || (leb 48 b && leb b 57) || eqb b 95

-- the value of a hexadecimal digit of either case; none where it is no digit
unfoldable pub hex_value : ℕ → Option ℕ
hex_value b =
    cond (leb 48 b && leb b 57) (Some (b - 48))
    (cond (leb 97 b && leb b 102) (Some (b - 87)) (cond (leb 65 b && leb b 70) (Some (b - 55)) None))
