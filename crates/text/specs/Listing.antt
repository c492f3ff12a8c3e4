-- The text of a word.
use Rattle.std.specs.Prelude.{ℕ, ◌/◌, ◌%◌, Bool, cond, List, ◌++◌, eqb, ltb, length, drop}
use Rattle.names.specs.Names.{bytes, register_name, csr_name}
use Rattle.isa.specs.Opcode.{meaning, gives_reason2}
use Rattle.text.specs.Answer.{Answer, accepted, refused}

-- "csrr names a register then a CSR, csrw a CSR then a register, every other mnemonic two registers": 03 is csrr, 04 csrw
abbrev pub first_is_csr : ℕ → Bool
first_is_csr opcode = eqb opcode 4

abbrev pub second_is_csr : ℕ → Bool
second_is_csr opcode = eqb opcode 3

abbrev pub operand_name : Bool → ℕ → List ℕ
operand_name is_csr n = cond is_csr (csr_name n) (register_name n)

-- "First byte is the opcode; the second has the destination in its upper and the source in its lower four bits." "lower case, `mv r1, r2`,
-- canonical register names"
unfoldable pub text_of : ℕ → List ℕ
text_of w =
    (meaning (w % 256)).name ++ (bytes " " ++ (operand_name (first_is_csr (w % 256)) (w / 4096)
    ++ (bytes ", " ++ operand_name (second_is_csr (w % 256)) (w / 256 % 16))))

-- a text and an output with so much room: 11 where the output is shorter than the text
abbrev pub fit_says : List ℕ → ℕ → Answer
fit_says text room = cond (ltb room (length text)) (refused 11) (accepted (length text))

-- "output past it stays as it was", and all of it where the text does not fit
abbrev pub fit_leaves : List ℕ → List ℕ → List ℕ
fit_leaves text out = cond (ltb (length out) (length text)) out (text ++ drop (length text) out)

-- "10 listing a word whose opcode gives reason 2; 11 output shorter than the text", in that order
unfoldable pub list_says : ℕ → ℕ → Answer
list_says w room = cond (gives_reason2 (w % 256)) (refused 10) (fit_says (text_of w) room)

unfoldable pub list_leaves : ℕ → List ℕ → List ℕ
list_leaves w out = cond (gives_reason2 (w % 256)) out (fit_leaves (text_of w) out)
