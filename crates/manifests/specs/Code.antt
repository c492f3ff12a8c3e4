-- How the code reads a manifest: the digits in front of a line, the line's end, and the heads from which lines are looked through.
use Rattle.std.specs.Prelude.{ℕ, zero, suc, ◌+◌, ◌-◌, ◌/◌, ◌%◌, ◌≡◌, cond, List, [], ◌∷◌, ◌++◌, ltb, eqb, length, take, drop, get_or, set, replicate, Option, Some, None}
use Rattle.manifests.specs.Manifests.{lines, is_digit, value_after, number_of, front, place_among, or_else}
use Rattle.manifests.specs.declared.Part.{Part}
use Rattle.manifests.specs.declared.Held.{Held}
use Rattle.manifests.specs.declared.fronts.Digits.{Digits}
use Rattle.manifests.specs.declared.fronts.Front.{Front}

-- the digits that stand in front, so many at most
unfoldable pub digits_of : ℕ → List ℕ → List ℕ
digits_of zero s = []
digits_of (suc k) [] = []
digits_of (suc k) (b ∷ s) = cond (is_digit b) (b ∷ digits_of k s) []

abbrev pub read_digits : List ℕ → Digits
read_digits s = record { value = value_after 0 (digits_of 9 s); count = length (digits_of 9 s) }

-- the first line of a text
unfoldable pub first_line : List ℕ → List ℕ
first_line [] = []
first_line (x ∷ s) = cond (eqb x 10) [] (x ∷ first_line s)

-- where the line ends that a place is in: its LF, or the end of the text; a place past the end is its own
unfoldable pub line_end : List ℕ → ℕ → ℕ
line_end s at = at + length (first_line (drop at s))

-- the number in front of a line's first tab
unfoldable pub key_of : List ℕ → Option ℕ
key_of line = cond (ltb (length (front line)) (length line)) (number_of (front line)) None

-- what is read in front of the first line of a text
abbrev pub front_of : List ℕ → Front
front_of s = record { number = key_of (first_line s); read = length (digits_of 9 s) }

-- a look-up that begins with the line at a place
abbrev pub place_from : ℕ → List ℕ → ℕ → Option Part
place_from n s at = place_among n at (lines (drop at s))

-- a table of heads with the line that begins at a place, by its number modulo the table's length; only where no line stands there yet, which
-- `size` says
unfoldable pub noted : ℕ → ℕ → Option ℕ → List ℕ → List ℕ
noted size at (Some n) t = cond (eqb (get_or t (n % length t) 0) size) (set t (n % length t) at) t
noted size at None t = t

-- so with each line of a manifest, the first of which begins at a place
unfoldable pub noted_all : ℕ → ℕ → List (List ℕ) → List ℕ → List ℕ
noted_all size at [] t = t
noted_all size at (l ∷ ls) t = noted_all size (at + (length l + 1)) ls (noted size at (key_of l) t)

-- a table of so many heads: for each remainder where the first line begins whose number has it; the manifest's length where there is none
unfoldable pub table_of : ℕ → List ℕ → List ℕ
table_of k s = noted_all (length s) 0 (lines s) (replicate k (length s))

-- a manifest's heads: two tables, one of half as many and one of the rest. Of a length that is odd their lengths differ by one, so that numbers which
-- share a remainder in one of them seldom do in the other
unfoldable pub heads_of : ℕ → List ℕ → List ℕ
heads_of k s = table_of (k / 2) s ++ table_of (k - k / 2) s

-- the head of a number in one table; the first line where the table is empty
unfoldable pub head_in : List ℕ → ℕ → ℕ
head_in t n = get_or t (n % length t) 0

abbrev pub later_of : ℕ → ℕ → ℕ
later_of a b = cond (ltb a b) b a

-- where a look-up begins: at the later one of a number's two heads
unfoldable pub head_by : List ℕ → ℕ → ℕ
head_by t n = later_of (head_in (take (length t / 2) t) n) (head_in (drop (length t / 2) t) n)

-- a pen looked up from such heads, whatever they are
abbrev pub by_heads : Option ℕ → List ℕ → List ℕ → List ℕ → List ℕ → Option Held
by_heads (Some n) today heads last more = or_else (place_from n today (head_by heads n)) (place_from n last (head_by more n))
by_heads None today heads last more = None

unfoldable pub held_from : List ℕ → List ℕ → List ℕ → List ℕ → List ℕ → Option Held
held_from line today heads last more = by_heads (number_of line) today heads last more

-- heads are a manifest's own; an empty table is any manifest's
abbrev pub HeadsOf : List ℕ → List ℕ → Type 0
HeadsOf s t = t ≡ heads_of (length t) s
