-- UTF-8, by Unicode's table of well-formed byte sequences.
use Rattle.std.specs.Prelude.{ℕ, zero, suc, ◌+◌, ◌-◌, ◌*◌, ◌/◌, ◌%◌, Bool, true, cond, ◌&&◌, ◌||◌, List, [], ◌∷◌, ◌++◌, leb, ltb, Option, Some, None}
use Rattle.utf8.specs.declared.Letter.{Letter}

-- a row of the table: lead bytes from `first` to `last`, and the number that a lead byte counts from; how many bytes follow it; from `low` to `high` the
-- first that follows, where one does: any other is from 0x80 to 0xbf
pub record Row : Type 0 where
  pub first : ℕ
  pub last : ℕ
  pub base : ℕ
  pub more : ℕ
  pub low : ℕ
  pub high : ℕ

abbrev pub row : ℕ → ℕ → ℕ → ℕ → ℕ → ℕ → Row
row a z b n l h = record { first = a; last = z; base = b; more = n; low = l; high = h }

-- no overlong form (0xc0, 0xc1; 0xe0 and 0xf0 with a low second byte), no surrogate (0xed with a high one), nothing over 0x10ffff (0xf4, 0xf5 and above)
abbrev pub table : List Row
table =
    row 0x00 0x7f 0x00 0 0x80 0xbf
    ∷ row 0xc2 0xdf 0xc0 1 0x80 0xbf
    ∷ row 0xe0 0xe0 0xe0 2 0xa0 0xbf
    ∷ row 0xe1 0xec 0xe0 2 0x80 0xbf
    ∷ row 0xed 0xed 0xe0 2 0x80 0x9f
    ∷ row 0xee 0xef 0xe0 2 0x80 0xbf
    ∷ row 0xf0 0xf0 0xf0 3 0x90 0xbf
    ∷ row 0xf1 0xf3 0xf0 3 0x80 0xbf
    ∷ row 0xf4 0xf4 0xf0 3 0x80 0x8f
    ∷ []

-- a letter that was read: its code point, and how many bytes it takes
abbrev pub letter : ℕ → ℕ → Option Letter
letter c n = Some (record { point = c; length = n })

abbrev pub between : ℕ → ℕ → ℕ → Bool
between l h x = leb l x && leb x h

-- the letter that a lead byte with value v begins, and of which n bytes are still to come, the next from l to h: six bits more by each
abbrev pub followed : ℕ → ℕ → ℕ → ℕ → ℕ → List ℕ → Option Letter
followed length v zero l h s = letter v length
followed length v (suc n) l h [] = None
followed length v (suc n) l h (x ∷ s) = cond (between l h x) (followed length (v * 64 + (x - 0x80)) n 0x80 0xbf s) None

-- by the first of the rows that has the lead byte
abbrev pub by_rows : List Row → ℕ → List ℕ → Option Letter
by_rows [] x s = None
by_rows (r ∷ rs) x s = cond (between r.first r.last x) (followed (r.more + 1) (x - r.base) r.more r.low r.high s) (by_rows rs x s)

-- the letter at the front of some bytes: its code point, and how many bytes it takes
unfoldable pub letter_of : List ℕ → Option Letter
letter_of [] = None
letter_of (x ∷ s) = by_rows table x s

abbrev pub onto : ℕ → Option (List ℕ) → Option (List ℕ)
onto c None = None
onto c (Some cs) = Some (c ∷ cs)

-- a letter, and what is read after the rest of its bytes
abbrev pub begins : Option Letter → (ℕ → Option (List ℕ)) → Option (List ℕ)
begins (Some l) on = onto l.point (on (l.length - 1))
begins None on = None

-- the code points of bytes of which the first k are of a letter that was read
unfoldable pub points_after : ℕ → List ℕ → Option (List ℕ)
points_after k [] = Some []
points_after (suc k) (x ∷ s) = points_after k s
points_after zero (x ∷ s) = begins (letter_of (x ∷ s)) (λ (k : ℕ). points_after k s)

-- the code points of a text, or none where it is not UTF-8
abbrev pub points : List ℕ → Option (List ℕ)
points s = points_after 0 s

-- what Unicode's encoding gives: "decoding an encoded code point returns it", `proofs/Encoding.antt`
unfoldable pub encoded : ℕ → List ℕ
encoded c =
    cond (ltb c 0x80) (c ∷ [])
    (cond (ltb c 0x800) ((0xc0 + c / 64) ∷ (0x80 + c % 64) ∷ [])
    (cond (ltb c 0x10000) ((0xe0 + c / 4096) ∷ (0x80 + c / 64 % 64) ∷ (0x80 + c % 64) ∷ [])
    ((0xf0 + c / 262144) ∷ (0x80 + c / 4096 % 64) ∷ (0x80 + c / 64 % 64) ∷ (0x80 + c % 64) ∷ [])))

-- the numbers that are code points of letters: no surrogates, nothing over 0x10ffff
abbrev pub is_scalar : ℕ → Bool
is_scalar c = ltb c 0xd800 || (leb 0xe000 c && leb c 0x10ffff)

abbrev pub all_scalar : List ℕ → Bool
all_scalar [] = true
all_scalar (c ∷ cs) = is_scalar c && all_scalar cs

abbrev pub encoded_all : List ℕ → List ℕ
encoded_all [] = []
encoded_all (c ∷ cs) = encoded c ++ encoded_all cs
