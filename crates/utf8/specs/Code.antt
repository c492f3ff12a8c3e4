-- How the code has the table's column of the first byte that follows.
use Rattle.std.specs.Prelude.{ℕ, cond, eqb}

-- the least and the greatest that may follow a lead byte of three or four bytes
unfoldable pub low_after : ℕ → ℕ
low_after x = cond (eqb x 0xe0) 0xa0 (cond (eqb x 0xf0) 0x90 0x80)

unfoldable pub high_after : ℕ → ℕ
high_after x = cond (eqb x 0xed) 0x9f (cond (eqb x 0xf4) 0x8f 0xbf)
