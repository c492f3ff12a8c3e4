-- "word, one or more blanks, word, comma, word; a newline or any other byte counts here", with "spaces and tabs at both ends and around the
-- comma". "Words are one or more letters, digits or underscores."
-- `proofs/Reading.antt`: `line_of` finds the words m, d, r in s exactly where IsLine s m d r.
use Rattle.std.specs.Prelude.{◌≡◌, true, false, List, ◌∷◌, ◌++◌, ℕ}
use Rattle.grammar.specs.Line.{all, blank, wordy, empty}

pub record Word (w : List ℕ) : Type 0 where
  pub some : empty w ≡ false
  pub bytes : all wordy w ≡ true

pub record IsLine (s m d r : List ℕ) : Type 0 where
  pub b0 : List ℕ
  pub b1 : List ℕ
  pub b2 : List ℕ
  pub b3 : List ℕ
  pub b4 : List ℕ
  pub blank0 : all blank b0 ≡ true
  pub blank1 : all blank b1 ≡ true
  pub blank2 : all blank b2 ≡ true
  pub blank3 : all blank b3 ≡ true
  pub blank4 : all blank b4 ≡ true
  pub gap : empty b1 ≡ false
  pub mnemonic : Word m
  pub first : Word d
  pub second : Word r
  pub whole : s ≡ b0 ++ (m ++ (b1 ++ (d ++ (b2 ++ (44 ∷ (b3 ++ (r ++ b4)))))))
