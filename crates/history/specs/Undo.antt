-- Bytes put back: what a record's count, first address and old bytes say about memory.
use Rattle.std.specs.Prelude.{ℕ, zero, suc, ◌<◌, ◌≡◌, List, length, set}
use Rattle.word.specs.Word.{above}
use Rattle.word.specs.Memory.{byte_in}

-- "of the one or two bytes that word 25 counts .., those in RAM": memory with the old bytes x and y back at the n addresses from a; `set` past
-- the end changes nothing, so only RAM is written
abbrev pub restored : ℕ → ℕ → ℕ → ℕ → List ℕ → List ℕ
restored zero a x y m = m
restored (suc zero) a x y m = set m a x
restored (suc (suc n)) a x y m = set (set m a x) (above a) y

-- m' differs from m at most in the n bytes from a
pub record Touched (n a : ℕ) (m m' : List ℕ) : Type 0 where
  pub same_length : length m' ≡ length m
  pub elsewhere : (k : ℕ) → (0 < n → k ≡ a → ⊥) → (1 < n → k ≡ above a → ⊥) → byte_in m' k ≡ byte_in m k
