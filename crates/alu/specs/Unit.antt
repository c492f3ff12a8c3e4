-- The arithmetic unit: each computational instruction's value and flags, from the words in the destination and in the source register.
-- The sentences quoted are the source's (its alphabetical list and its groups of instructions) and the house's where it completes them, 02's marked so.
use Rattle.std.specs.Prelude.{Bool, false, cond, ◌&&◌, ℕ, ◌+◌, ◌-◌, ◌%◌, ◌^◌, ltb, leb, eqb}
use Rattle.std.specs.Bool.{xor}
use Rattle.word.specs.Word.{plus_at, minus_at}
use Rattle.word.specs.Bits.{bit_at, and_at, or_at, xor_at, not_at, rev_at, shl_at, shr_at, shra_at}
use Rattle.word.specs.Signed.{sum_overflows, difference_overflows, signed_at_most, signed_below}
use Rattle.alu.specs.declared.Answer.{Answer}
use Rattle.alu.specs.declared.Outcome.{Outcome}
use Rattle.alu.specs.declared.AluOp.{AluOp}
use Rattle.alu.specs.declared.AluOp.TheVariants.{Add, And, Dec1, Dec2, Inc1, Inc2, Not, Or, Rev, Shl, Shr, Shra, Sub, Xor}
use Rattle.alu.specs.declared.CompareOp.{CompareOp}
use Rattle.alu.specs.declared.CompareOp.TheVariants.{Cmpu, Cmps}

-- the flags at their places in f: z bit 4, c bit 5, s bit 6, o bit 7
abbrev pub flags_of : Bool → Bool → Bool → Bool → ℕ
flags_of z c s o = cond z (2 ^ 4) 0 + cond c (2 ^ 5) 0 + cond s (2 ^ 6) 0 + cond o (2 ^ 7) 0

-- "z to 1 if the result is zero"; "s to 1 if the result is negative (copies the highest bit of the result)"
abbrev pub answer_with : ℕ → Bool → Bool → Answer
answer_with v c o = record { value = v; flags = flags_of (eqb v 0) c (bit_at v 15) o }

-- the answer that an outcome comes to
abbrev pub answer_as : Outcome → Answer
answer_as r = answer_with r.value r.c r.o

-- "c to the carry from the highest bit"; "o to 1 if a signed overflow occurs"
unfoldable pub add_of : ℕ → ℕ → Answer
add_of a b = answer_with (plus_at 16 a b) (leb (2 ^ 16) (a + b)) (sum_overflows 16 a b)

-- "c to the borrow from the highest bit"
unfoldable pub sub_of : ℕ → ℕ → Answer
sub_of a b = answer_with (minus_at 16 a b) (ltb a b) (difference_overflows 16 a b)

-- "c to 0", "o to 0"
unfoldable pub logic_of : ℕ → Answer
logic_of v = answer_with v false false

-- 02, Q-2: "For a count of 2 to 15 the carry is the last bit shifted out, for shl, shr and shra alike; for count 0 it is 0". After a shift of a by n
-- it is bit i of a, where i is the place that goes out last. With a count of 1 that is the bit which the source names: no case of its own.
abbrev pub last_out : (a n i : ℕ) → Bool
last_out a n i = ltb 0 n && bit_at a i

-- by "the lowest 4 bits" of the second word, n; to the left the last place is 16 - n: "the highest bit of the original value of dstr if shifting
-- by 1 bit"; "o to 1 if the operation changes the value of the highest bit"
unfoldable pub shl_of : ℕ → ℕ → Answer
shl_of a n = answer_with (shl_at 16 a n) (last_out a n (16 - n)) (xor (bit_at a 15) (bit_at (shl_at 16 a n) 15))

-- to the right it is n - 1: "the lowest bit of the original value of dstr if shifting by 1 bit"
unfoldable pub shr_of : ℕ → ℕ → Answer
shr_of a n = answer_with (shr_at 16 a n) (last_out a n (n - 1)) (xor (bit_at a 15) (bit_at (shr_at 16 a n) 15))

-- "shra has o=1 only for count 1 on 0xffff, else 0"
unfoldable pub shra_of : ℕ → ℕ → Answer
shra_of a n = answer_with (shra_at 16 a n) (last_out a n (n - 1)) (eqb n 1 && eqb a 0xffff)

-- "Unary operations use the source register as the operand"; "Binary operations use the destination register as the first and the source
-- register as the second operand"; "Shifts use the source's lowest 4 bits"
unfoldable pub alu_of : AluOp → ℕ → ℕ → Answer
alu_of Add d s = add_of d s
alu_of And d s = logic_of (and_at 16 d s)
alu_of Dec1 d s = sub_of s 1
alu_of Dec2 d s = sub_of s 2
alu_of Inc1 d s = add_of s 1
alu_of Inc2 d s = add_of s 2
alu_of Not d s = logic_of (not_at 16 s)
alu_of Or d s = logic_of (or_at 16 d s)
alu_of Rev d s = logic_of (rev_at 16 s)
alu_of Shl d s = shl_of d (s % 16)
alu_of Shr d s = shr_of d (s % 16)
alu_of Shra d s = shra_of d (s % 16)
alu_of Sub d s = sub_of d s
alu_of Xor d s = logic_of (xor_at 16 d s)

-- "z to 1 if the values are equal; c to 1 if dstr is less or equal to srcr; s to 1 if dstr is less than srcr; o to 0"
unfoldable pub compare_of : CompareOp → ℕ → ℕ → ℕ
compare_of Cmpu d s = flags_of (eqb d s) (leb d s) (ltb d s) false
compare_of Cmps d s = flags_of (eqb d s) (signed_at_most 16 d s) (signed_below 16 d s) false
