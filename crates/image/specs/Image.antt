-- The listing program: the whole output for a whole input.
use Rattle.std.specs.Prelude.{ℕ, ◌+◌, ◌*◌, ◌/◌, ◌%◌, cond, ◌&&◌, List, [], ◌∷◌, ◌++◌, eqb, leb, ltb, length, get_or, drop, Option, Some, None, option_and_then}
unfoldable pub use Rattle.letters.specs.Letters.{hex_value}
use Rattle.names.specs.Names.{bytes}
use Rattle.isa.specs.Opcode.{gives_reason2}
use Rattle.text.specs.Answer.{Answer, accepted, refused}
use Rattle.text.specs.Listing.{text_of, fit_says, fit_leaves}

-- lower-case hexadecimal digits
unfoldable pub hex_digit : ℕ → ℕ
hex_digit n = cond (ltb n 10) (48 + n) (87 + n)

abbrev pub hex_byte : ℕ → List ℕ
hex_byte b = hex_digit (b / 16 % 16) ∷ hex_digit (b % 16) ∷ []

abbrev pub hex_word : ℕ → List ℕ
hex_word a = hex_digit (a / 4096 % 16) ∷ hex_digit (a / 256 % 16) ∷ hex_digit (a / 16 % 16) ∷ hex_digit (a % 16) ∷ []

-- "0100 0e 12 mv r1, r2", "0102 0f 12 ?"
abbrev pub instruction_of : ℕ → List ℕ
instruction_of w = cond (gives_reason2 (w % 256)) (bytes "?") (text_of w)

unfoldable pub pair_line : ℕ → ℕ → ℕ → List ℕ
pair_line a b c =
    hex_word a ++ (bytes " " ++ (hex_byte b ++ (bytes " " ++ (hex_byte c ++ (bytes " " ++ (instruction_of (b + 256 * c) ++ bytes "\n"))))))

-- "0104 ff"
unfoldable pub last_line : ℕ → ℕ → List ℕ
last_line a b = hex_word a ++ (bytes " " ++ (hex_byte b ++ bytes "\n"))

-- the lines of the bytes that stand from address a on
abbrev pub lines_of : ℕ → List ℕ → List ℕ
lines_of a [] = []
lines_of a (b ∷ []) = last_line a b
lines_of a (b ∷ (c ∷ bs)) = pair_line a b c ++ lines_of (a + 2) bs

-- the number of four hexadecimal digits
abbrev pub digits_of : ℕ → ℕ → ℕ → ℕ → Option ℕ
digits_of a b c d =
    option_and_then (λ a. option_and_then (λ b. option_and_then (λ c. option_and_then (λ d. Some (4096 * a + 256 * b + 16 * c + d)) (hex_value d)) (hex_value c)) (hex_value b)) (hex_value a)

-- "four hex digits of either case, newline"
unfoldable pub header_of : List ℕ → Option ℕ
header_of s =
    cond (leb 5 (length s) && eqb (get_or s 4 0) 10)
    (digits_of (get_or s 0 0) (get_or s 1 0) (get_or s 2 0) (get_or s 3 0))
    None

-- "at most 60,000 bytes after it"; "`too long` (also when address plus length passes 65,536)"
abbrev pub body_of : ℕ → List ℕ → List ℕ
body_of a body = cond (leb (length body) 60000 && leb (a + length body) 65536) (lines_of a body) (bytes "too long\n")

-- "Otherwise it prints only one line, `bad header` (this first), or `too long`"
abbrev pub output_of : Option ℕ → List ℕ → List ℕ
output_of (Some a) s = body_of a (drop 5 s)
output_of None s = bytes "bad header\n"

unfoldable pub listing_of : List ℕ → List ℕ
listing_of s = output_of (header_of s) s

-- the paper's number and value for each answer: the value is the text's length
abbrev pub written_as : Option ℕ → Answer
written_as (Some n) = accepted n
written_as None = refused 11

-- "11 output shorter than the text"; "Every refusal .. changes no lent byte"; "output past it stays as it was"
abbrev pub listing_says : List ℕ → ℕ → Answer
listing_says s room = fit_says (listing_of s) room

abbrev pub listing_leaves : List ℕ → List ℕ → List ℕ
listing_leaves s out = fit_leaves (listing_of s) out
