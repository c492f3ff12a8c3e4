-- "Each name is turned into single bytes by ISO 8859-1 (å is 0xe5)": of a code point up to 0xff the byte is its number.
use Rattle.std.specs.Prelude.{ℕ, Bool, true, cond, ◌&&◌, List, [], ◌∷◌, leb, length, Option, Some, None, Result, Ok, Err}
use Rattle.utf8.specs.Utf8.{points}
use Rattle.utf8.specs.declared.Unfit.{Unfit}
use Rattle.utf8.specs.declared.Unfit.TheVariants.{NotUtf8, NotLatin}

-- no "code point over 0xff or NUL"
abbrev pub all_latin : List ℕ → Bool
all_latin [] = true
all_latin (c ∷ cs) = (leb 1 c && leb c 0xff) && all_latin cs

abbrev pub judged_by : Option (List ℕ) → Result ℕ Unfit
judged_by None = Err NotUtf8
judged_by (Some cs) = cond (all_latin cs) (Ok (length cs)) (Err NotLatin)

-- "80 name not UTF-8, 81 code point over 0xff or NUL", 80 before 81 wherever either stands; else of how many single bytes it is
unfoldable pub judged_of : List ℕ → Result ℕ Unfit
judged_of name = judged_by (points name)

abbrev pub points_in : Option (List ℕ) → List ℕ
points_in None = []
points_in (Some cs) = cs

-- the single bytes of a name that is fine
unfoldable pub latin_of : List ℕ → List ℕ
latin_of name = points_in (points name)
