-- How the code keeps what Names says, and nothing that the paper says: names as numbers.
use Rattle.std.specs.Prelude.{ℕ, suc, ◌+◌, ◌*◌, ◌/◌, ◌%◌, Bool, true, cond, ◌&&◌, Option, Some, None, List, [], ◌∷◌, map, leb, ltb, eqb, length}
use Rattle.names.specs.Names.{fixed_names, reg_fixed}
use Rattle.names.specs.declared.register.Reg.{Reg}

-- a name as one number, its first byte lowest
abbrev pub pack : List ℕ → ℕ
pack [] = 0
pack (b ∷ bs) = b + 256 * pack bs

-- the key of what was written: its number if it is one to seven bytes, none of them 0; else none
abbrev pub nonzero : List ℕ → Bool
nonzero [] = true
nonzero (b ∷ bs) = leb 1 b && nonzero bs

abbrev pub keyable : List ℕ → Bool
keyable w = leb (length w) 7 && nonzero w

abbrev pub key_of : List ℕ → Option ℕ
key_of [] = None
key_of (b ∷ bs) = cond (keyable (b ∷ bs)) (Some (pack (b ∷ bs))) None

-- the place of the first number that is the key, or how many numbers there are
abbrev pub seek_in : List ℕ → ℕ → ℕ
seek_in [] key = 0
seek_in (x ∷ xs) key = cond (eqb key x) 0 (suc (seek_in xs key))

-- the register that has the key as its fixed name
unfoldable pub fixed_keyed : ℕ → Option Reg
fixed_keyed key = reg_fixed (seek_in (map pack fixed_names) key)

-- the number that a register with this key as its canonical name has; what it is of other keys does not matter
unfoldable pub number_near : ℕ → ℕ
number_near key = cond (ltb key 65536) (key / 256 % 16) ((10 + key / 65536 % 16) % 16)
