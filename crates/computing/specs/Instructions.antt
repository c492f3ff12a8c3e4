-- What each legal instruction does that touches registers, flags and CSRs alone, by groups. Below, g are the registers, k the CSRs; the instruction's opcode is
-- o, its destination d, its source s. A result is told from what stood before it: "Operands are read before results are stored".
use Rattle.std.specs.Prelude.{cond, List, ℕ, ltb, eqb, set}
use Rattle.word.specs.Word.{join_at, low_at, high_at}
use Rattle.word.specs.Bits.{and_at, or_at}
use Rattle.alu.specs.Unit.{alu_of, compare_of}
use Rattle.alu.specs.declared.Answer.{Answer}
use Rattle.alu.specs.declared.AluOp.{AluOp}
use Rattle.alu.specs.declared.CompareOp.{CompareOp}
use Rattle.isa.specs.Opcode.{condition_holds}
use Rattle.isa.specs.declared.opcode.MoveOp.{MoveOp}
use Rattle.isa.specs.declared.opcode.MoveOp.TheVariants.{Csrr, Csrw, Exch, Mv, MvIf, Reti}
use Rattle.names.specs.Names.{F, IA, PC}
use Rattle.bus.specs.State.{word}

-- z, c, s, o, given at their places in f, take the place of its bits 4 to 7
abbrev pub flagged : List ℕ → ℕ → List ℕ
flagged g flags = set g F (or_at 16 (and_at 16 (word g F) 0xff0f) flags)

-- "If f is written as a register, the stored number replaces all computed flags": the register is written after the flags
abbrev pub answered : List ℕ → ℕ → Answer → List ℕ
answered g d x = set (flagged g x.flags) d x.value

unfoldable pub computed : AluOp → List ℕ → ℕ → ℕ → List ℕ
computed op g d s = answered g d (alu_of op (word g d) (word g s))

-- "cmps and cmpu store no register, so naming f there still sets z, c, s, o"
unfoldable pub compared : CompareOp → List ℕ → ℕ → ℕ → List ℕ
compared op g d s = flagged g (compare_of op (word g d) (word g s))

-- "csr6 to csr15 read 0 and ignore writes"
abbrev pub csr_read : List ℕ → ℕ → ℕ
csr_read k i = cond (ltb i 6) (word k i) 0

-- "A program can write only bits 0–7 of csr0."
abbrev pub csr_written : List ℕ → ℕ → ℕ → List ℕ
csr_written k i w =
    cond (eqb i 0) (set k 0 (join_at 8 (low_at 8 w) (high_at 8 (word k 0))))
    (cond (ltb i 6) (set k i w) k)

-- registers and CSRs
pub record Moved : Type 0 where
  pub regs : List ℕ
  pub csrs : List ℕ

abbrev pub moves : List ℕ → List ℕ → Moved
moves g k = record { regs = g; csrs = k }

-- "Atomically sets bit ie (interrupts enabled) in register f, moves the value from register ia to register pc, and reads the value from csr1 to ia."
abbrev pub returned : List ℕ → ℕ → List ℕ
returned g handler = set (set (set g F (or_at 16 (word g F) 0x0100)) PC (word g IA)) IA handler

unfoldable pub moved : MoveOp → List ℕ → List ℕ → ℕ → ℕ → ℕ → Moved
moved Csrr g k o d s = moves (set g d (csr_read k s)) k
moved Csrw g k o d s = moves g (csr_written k d (word g s))
moved Exch g k o d s = moves (set (set g d (word g s)) s (word g d)) k
moved Mv g k o d s = moves (set g d (word g s)) k
moved MvIf g k o d s = moves (cond (condition_holds o (word g F)) (set g d (word g s)) g) k
moved Reti g k o d s = moves (returned g (word k 1)) k
