-- Numbers as the assembler and the debugger have them.
use Rattle.std.specs.Prelude.{ℕ, ◌+◌, ◌-◌, ◌*◌, ◌%◌, Bool, true, false, cond, ◌&&◌, ◌||◌, List, [], ◌∷◌, eqb, leb, ltb, length, get_or, take, drop, Option, Some, None, Result, Ok, Err}
use Rattle.letters.specs.Letters.{lower, hex_value}
use Rattle.quoted.specs.Quoted.{meant}
use Rattle.quoted.specs.declared.Mode.TheVariants.{Plain}
use Rattle.lexis.specs.declared.numbers.Value.{Value}
use Rattle.lexis.specs.declared.numbers.Fault.{Fault}
use Rattle.lexis.specs.declared.numbers.Fault.TheVariants.{Bad, TooLarge}

-- what a byte is worth as a digit: 16, which is too much in each base, where it is none
abbrev pub worth : Option ℕ → ℕ
worth None = 16
worth (Some d) = d

-- "Groups of digits may be separated by an underscore": each byte is a digit of the base, or an underscore between two digits; the Bool says if a
-- digit stands before
abbrev pub grouped : ℕ → Bool → List ℕ → Bool
grouped base digit [] = digit
grouped base digit (b ∷ bs) = cond (eqb b 95) (digit && grouped base false bs) (ltb (worth (hex_value b)) base && grouped base true bs)

-- the digits alone
abbrev pub digits : List ℕ → List ℕ
digits [] = []
digits (b ∷ bs) = cond (eqb b 95) (digits bs) (worth (hex_value b) ∷ digits bs)

-- the number that digits make after one that others made
abbrev pub value_in : ℕ → ℕ → List ℕ → ℕ
value_in base v [] = v
value_in base v (d ∷ ds) = value_in base (v * base + d) ds

-- "a hexadecimal constant (started by `0x`), or as a binary constant (started by `0b`)"
unfoldable pub base_by : ℕ → ℕ → ℕ
base_by first second = cond (eqb first 48) (cond (eqb (lower second) 120) 16 (cond (eqb (lower second) 98) 2 10)) 10

abbrev pub base_of : List ℕ → ℕ
base_of w = base_by (get_or w 0 0) (get_or w 1 0)

-- what stands after that start
abbrev pub body_of : List ℕ → List ℕ
body_of w = cond (eqb (base_of w) 10) w (drop 2 w)

-- "up to 8 binary or 2 hexadecimal digits .. yield a byte"; "or if it contains more than 3 digits"
unfoldable pub most : ℕ → ℕ
most base = cond (eqb base 2) 8 (cond (eqb base 16) 2 3)

-- "An unsigned 16-bit integer"; "Size of a binary or hexadecimal constant is determined by the number of digits"; "Size of a decimal constant is two
-- bytes if the value is outside the range 0–255 or if it contains more than 3 digits"
abbrev pub sized : ℕ → ℕ → ℕ → Value
sized base v n = record { bits = v; word = ltb 255 v || ltb (most base) n; negative = false }

unfoldable pub valued_of : ℕ → ℕ → ℕ → Result Value Fault
valued_of base v n = cond (leb v 65535) (Ok (sized base v n)) (Err TooLarge)

unfoldable pub unsigned_in : ℕ → List ℕ → Result Value Fault
unsigned_in base body = cond (grouped base false body) (valued_of base (value_in base 0 (digits body)) (length (digits body))) (Err Bad)

abbrev pub unsigned_of : List ℕ → Result Value Fault
unsigned_of w = unsigned_in (base_of w) (body_of w)

-- "A number can use the minus sign to compute a negative value (two's complement)": down to -32768, and stored as a word
unfoldable pub minus_of : ℕ → Result Value Fault
minus_of n = cond (leb n 32768) (Ok (record { bits = (65536 - n) % 65536; word = true; negative = true })) (Err TooLarge)

abbrev pub negated : Result Value Fault → Result Value Fault
negated (Ok v) = minus_of v.bits
negated (Err f) = Err f

-- "zero (`''` equal to `'\0'`), one (`'x'`), or two (`'xy'`) characters, the first stored in the lower byte"
abbrev pub of_chars : Option (List ℕ) → Result Value Fault
of_chars None = Err Bad
of_chars (Some []) = Ok (record { bits = 0; word = false; negative = false })
of_chars (Some (a ∷ [])) = Ok (record { bits = a; word = false; negative = false })
of_chars (Some (a ∷ b ∷ [])) = Ok (record { bits = a + 256 * b; word = true; negative = false })
of_chars (Some (a ∷ b ∷ c ∷ cs)) = Err Bad

-- a constant in single quotes: the first byte is one, and so is the last, which is another
unfoldable pub character_of : List ℕ → Result Value Fault
character_of w =
    cond (leb 2 (length w))
    (cond (eqb (get_or w 0 0) 39)
    (cond (eqb (get_or w (length w - 1) 0) 39) (of_chars (meant 39 Plain (take (length w - 2) (drop 1 w)))) (Err Bad))
    (Err Bad))
    (Err Bad)

-- the debugger's VALUE; in the assembler the minus sign is an operator, so that what is read there is unsigned_of or character_of
unfoldable pub number_of : List ℕ → Result Value Fault
number_of w = cond (eqb (get_or w 0 0) 39) (character_of w) (cond (eqb (get_or w 0 0) 45) (negated (unsigned_of (drop 1 w))) (unsigned_of w))
