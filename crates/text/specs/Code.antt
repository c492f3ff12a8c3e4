-- Texts by keys, as private functions tell them. No public function's promise cites this file.
use Rattle.std.specs.Prelude.{ℕ, zero, suc, ◌/◌, ◌%◌, cond, List, [], ◌∷◌, eqb}

-- the bytes of a key, the lowest first, down to the last that is not 0
abbrev pub digits : ℕ → ℕ → List ℕ
digits zero x = []
digits (suc k) x = cond (eqb x 0) [] ((x % 256) ∷ digits k (x / 256))

unfoldable pub key_text : ℕ → List ℕ
key_text key = digits 8 key
