-- The line reader: what it makes of a line, stage by stage. `Grammar` has the sentence itself, and proofs/Reading that both agree.
use Rattle.std.specs.Prelude.{ℕ, Bool, true, false, cond, ◌&&◌, List, [], ◌∷◌, eqb}
unfoldable pub use Rattle.letters.specs.Letters.{blank, wordy}

-- the bytes at the front that pass a test, and what stands after them
abbrev pub run : (ℕ → Bool) → List ℕ → List ℕ
run f [] = []
run f (b ∷ bs) = cond (f b) (b ∷ run f bs) []

abbrev pub rest : (ℕ → Bool) → List ℕ → List ℕ
rest f [] = []
rest f (b ∷ bs) = cond (f b) (rest f bs) (b ∷ bs)

abbrev pub all : (ℕ → Bool) → List ℕ → Bool
all f [] = true
all f (b ∷ bs) = f b && all f bs

abbrev pub empty : List ℕ → Bool
empty [] = true
empty (b ∷ bs) = false

pub data Line : Type 0 where
  words : List ℕ → List ℕ → List ℕ → Line
  no_line : Line

-- blanks, a word, one or more blanks, a word, blanks, a comma, blanks, a word, blanks, and no more
abbrev pub at_end : List ℕ → List ℕ → List ℕ → List ℕ → Line
at_end m d r s = cond (empty s) (words m d r) no_line

abbrev pub at_second : List ℕ → List ℕ → List ℕ → Line
at_second m d s = cond (empty (run wordy s)) no_line (at_end m d (run wordy s) (rest blank (rest wordy s)))

abbrev pub at_comma : List ℕ → List ℕ → List ℕ → Line
at_comma m d [] = no_line
at_comma m d (b ∷ s) = cond (eqb b 44) (at_second m d (rest blank s)) no_line

abbrev pub at_first : List ℕ → List ℕ → Line
at_first m s = cond (empty (run wordy s)) no_line (at_comma m (run wordy s) (rest blank (rest wordy s)))

abbrev pub at_gap : List ℕ → List ℕ → Line
at_gap m s = cond (empty (run blank s)) no_line (at_first m (rest blank s))

abbrev pub at_mnemonic : List ℕ → Line
at_mnemonic s = cond (empty (run wordy s)) no_line (at_gap (run wordy s) (rest wordy s))

unfoldable pub line_of : List ℕ → Line
line_of s = at_mnemonic (rest blank s)
