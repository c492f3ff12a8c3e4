-- The word of a line.
use Rattle.std.specs.Prelude.{ℕ, ◌+◌, ◌*◌, ◌%◌, Bool, cond, List, Option, Some, None, Result, Ok, Err}
use Rattle.names.specs.Names.{reg_named, csr_named}
use Rattle.isa.specs.Opcode.{opcode_named, gives_reason2}
use Rattle.names.specs.declared.register.Reg.{Reg}
use Rattle.names.specs.declared.register.Csr.{Csr}
use Rattle.text.specs.Answer.{Answer, accepted, refused}
use Rattle.text.specs.Listing.{first_is_csr, second_is_csr}
use Rattle.grammar.specs.Line.{Line, words, no_line, line_of}
use Rattle.text.specs.declared.trip.NoTrip.{NoTrip}
use Rattle.text.specs.declared.trip.NoTrip.TheVariants.{Unlisted, Other}
use Rattle.text.specs.declared.list.NoText.{NoText}
use Rattle.text.specs.declared.list.NoText.TheVariants.{Reason2, NoRoom}

-- an operand's number
abbrev pub reg_number : Option Reg → Option ℕ
reg_number (Some r) = Some r.number
reg_number None = None

abbrev pub csr_number : Option Csr → Option ℕ
csr_number (Some r) = Some r.number
csr_number None = None

-- "operand unknown or of the wrong kind"
abbrev pub operand_of : Bool → List ℕ → Option ℕ
operand_of is_csr w = cond is_csr (csr_number (csr_named w)) (reg_number (reg_named w))

-- the opcode below, the destination in the upper and the source in the lower four bits of the second byte
abbrev pub with_source : ℕ → ℕ → Option ℕ → Answer
with_source opcode d (Some s) = accepted (opcode + 256 * (16 * d + s))
with_source opcode d None = refused 14

abbrev pub with_operands : ℕ → Option ℕ → Option ℕ → Answer
with_operands opcode (Some d) s = with_source opcode d s
with_operands opcode None s = refused 14

-- "unknown or unimplemented mnemonic"
abbrev pub with_mnemonic : Option ℕ → List ℕ → List ℕ → Answer
with_mnemonic (Some opcode) d s = with_operands opcode (operand_of (first_is_csr opcode) d) (operand_of (second_is_csr opcode) s)
with_mnemonic None d s = refused 13

abbrev pub with_line : Line → Answer
with_line (words m d s) = with_mnemonic (opcode_named m) d s
with_line no_line = refused 12

-- "12 line isn't ..; 13 unknown or unimplemented mnemonic; 14 operand unknown or of the wrong kind", in that order
unfoldable pub assemble_says : List ℕ → Answer
assemble_says s = with_line (line_of s)

-- What listing a word and assembling the listing gives, given room; the theorem `round_trip` (proofs/Returning.antt) says it of the two calls.
abbrev pub again_of : ℕ → Result ℕ NoTrip
again_of w = cond (gives_reason2 (w % 256)) (Err Unlisted) (Ok w)

-- what a word without a text gives
abbrev pub no_trip : NoText → NoTrip
no_trip Reason2 = Unlisted
no_trip NoRoom = Other
