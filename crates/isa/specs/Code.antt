-- How the code keeps what Opcode says, and nothing that the paper says: the table's kinds, marks.
use Rattle.std.specs.Prelude.{ℕ, ◌+◌, ◌*◌, ◌/◌, ◌%◌, ◌<◌, false, cond, List, ◌∷◌, map, ◌≡◌, ltb, eqb, get_or}
use Rattle.names.specs.Names.{bytes}
use Rattle.names.specs.Code.{pack}
use Rattle.isa.specs.Opcode.{Row, meaning, plain, flag_names, images}
use Rattle.isa.specs.declared.opcode.MoveOp.TheVariants.{MvIf}
use Rattle.isa.specs.declared.opcode.LoadOp.TheVariants.{LdIf, LdisIf}
use Rattle.isa.specs.declared.opcode.Op.{Op}
use Rattle.isa.specs.declared.opcode.Op.TheVariants.{Illegal, Move, Load}

-- ---- the table of kinds

-- 0 gives reason 2; 1 to 3 are `ld`, `ld..is` and `mv` under a condition; from 4 on the plain mnemonics, by their opcodes
unfoldable pub kind_ops : List Op
kind_ops = Illegal 2 ∷ Load LdIf ∷ Load LdisIf ∷ Move MvIf ∷ map (λ (r : Row). r.is.op) plain

unfoldable pub kind_op : ℕ → Op
kind_op kind = get_or kind_ops kind (Illegal 2)

-- the names of those kinds that have one, 0 of the first four
unfoldable pub kind_names : List ℕ
kind_names = 0 ∷ 0 ∷ 0 ∷ 0 ∷ map (λ (r : Row). pack r.is.name) plain

-- the name of the flag that a condition tests
unfoldable pub flag_keys : List ℕ
flag_keys = map pack flag_names

abbrev pub flag_key : ℕ → ℕ
flag_key opcode = get_or flag_keys (opcode % 8) 0

-- a flag's name of one or two bytes, and `is` after it
unfoldable pub ended : ℕ → ℕ
ended flag = flag + cond (ltb flag 256) 256 65536 * pack (bytes "is")

-- two letters, `n` where bit 3 of the opcode is 0, and the rest
unfoldable pub under : ℕ → ℕ → ℕ → ℕ
under head opcode rest = cond (eqb (opcode / 8 % 2) 0) (head + 65536 * pack (bytes "n") + 16777216 * rest) (head + 65536 * rest)

unfoldable pub kind_name : ℕ → ℕ → ℕ
kind_name kind opcode =
    cond (eqb kind 1) (under (pack (bytes "ld")) opcode (flag_key opcode))
    (cond (eqb kind 2) (under (pack (bytes "ld")) opcode (ended (flag_key opcode)))
    (cond (eqb kind 3) (under (pack (bytes "mv")) opcode (flag_key opcode))
    (get_or kind_names kind 0)))

-- what a table tells of an opcode byte; past its end the kind is 0
unfoldable pub op_in : List ℕ → ℕ → Op
op_in table opcode = kind_op (get_or table opcode 0)

unfoldable pub name_in : List ℕ → ℕ → ℕ
name_in table opcode = kind_name (get_or table opcode 0) opcode

-- the key of an opcode's mnemonic
abbrev pub key_at : ℕ → ℕ
key_at opcode = pack (meaning opcode).name

-- the table tells the name and the operation of each of the 256 opcode bytes
unfoldable pub TellsAll : List ℕ → Type 0
TellsAll table = images {A = ℕ × Op} (λ opcode. (name_in table opcode, op_in table opcode)) 0 256 ≡ images (λ opcode. (key_at opcode, (meaning opcode).op)) 0 256

-- ---- marks

-- the mark of a key
unfoldable pub mark_of : ℕ → ℕ
mark_of key = key % 12561598 % 163

-- each opcode that has a name stands at the mark of its name
unfoldable pub Marked : List ℕ → Type 0
Marked marks = images (λ opcode. cond (eqb (key_at opcode) 0) opcode (get_or marks (mark_of (key_at opcode)) 0)) 0 256 ≡ images (λ opcode. opcode) 0 256

-- no other opcode has a mnemonic with the key
unfoldable pub CanOnlyBe : ℕ → ℕ → Type 0
CanOnlyBe key opcode = (o : ℕ) → o < 256 → eqb key 0 ≡ false → key_at o ≡ key → opcode ≡ o
