-- Bytes of RAM by address. Past the end of RAM stands 0.
use Rattle.std.specs.Prelude.{ℕ, zero, suc, List, slice_index}
use Rattle.word.specs.Word.{above, join_at}

-- the byte of memory m at address a, 0 past its end
abbrev pub byte_in : List ℕ → ℕ → ℕ
byte_in m a = slice_index m a

-- what n bytes written from address a on write over, "0 where not RAM or not written": the old first byte and the old second
abbrev pub old_first : List ℕ → ℕ → ℕ → ℕ
old_first m zero a = 0
old_first m (suc n) a = byte_in m a

abbrev pub old_second : List ℕ → ℕ → ℕ → ℕ
old_second m zero a = 0
old_second m (suc zero) a = 0
old_second m (suc (suc n)) a = byte_in m (above a)

-- "old first byte + 256·old second"
unfoldable pub old_bytes : List ℕ → ℕ → ℕ → ℕ
old_bytes m n a = join_at 8 (old_first m n a) (old_second m n a)
