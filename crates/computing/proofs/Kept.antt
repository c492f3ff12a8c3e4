-- What the instructions on registers, flags and CSRs keep: registers and CSRs stay good.
use mathlib.Core.List.{List}
use Prim.Native.Nat.{ℕ, zero, suc, ◌^◌, ◌<◌}
use native.Mathlib.Omega.{arith}
use lib.Dec.{ltb, eqb}
use lib.ListN.{set}
use Rattle.word.specs.Word.{join_at, low_at, high_at}
use Rattle.word.proofs.Width.{low_below}
use Rattle.word.proofs.Digits.{below}
use Rattle.alu.specs.declared.AluOp.{AluOp}
use Rattle.alu.specs.declared.CompareOp.{CompareOp}
use Rattle.alu.proofs.Ranges.{value-below}
use Rattle.isa.specs.Opcode.{condition_holds}
use Rattle.isa.specs.declared.opcode.MoveOp.{MoveOp}
use Rattle.isa.specs.declared.opcode.MoveOp.TheVariants.{Csrr, Csrw, Exch, Mv, MvIf, Reti}
use Rattle.names.specs.Names.{F, IA, PC}
use Rattle.bus.specs.State.{word}
use Rattle.bus.specs.Good.{GoodRegs, GoodCsrs}
use Rattle.bus.proofs.Kept.{picked, reg-set, csr0-set, csr-set}
use Rattle.computing.specs.Instructions.{flagged, computed, compared, csr_read, csr_written, Moved, moved}

reason-set : {k : List ℕ} (x : ℕ) → GoodCsrs k → GoodCsrs (set k 0 (join_at 8 (low_at 8 x) (high_at 8 (word k 0))))
reason-set x r = csr0-set r (omega (arith, low_below 8 x, r.csr0))

csrs-written : {k : List ℕ} (i : ℕ) {x : ℕ} → GoodCsrs k → x < 2 ^ 16 → GoodCsrs (csr_written k i x)
csrs-written {k} zero {x} r h = reason-set x r
csrs-written (suc i) {x} r h = picked GoodCsrs (eqb (suc i) 0) (reason-set x r) (picked GoodCsrs (ltb (suc i) 6) (csr-set i r h) r)

csr-in : {k : List ℕ} (i : ℕ) → GoodCsrs k → csr_read k i < 2 ^ 16
csr-in i r = picked (λ n. n < 2 ^ 16) (ltb i 6) (r.words.at i) (omega arith)

flags-good : {g : List ℕ} (flags : ℕ) → GoodRegs g → GoodRegs (flagged g flags)
flags-good flags r = reg-set F r (below 16 _)

pub computed-good : (op : AluOp) {g : List ℕ} (d s : ℕ) → GoodRegs g → GoodRegs (computed op g d s)
unfolding computed
computed-good op {g} d s r = reg-set d (flags-good _ r) (value-below op (word g d) (word g s))

pub compared-good : (op : CompareOp) {g : List ℕ} (d s : ℕ) → GoodRegs g → GoodRegs (compared op g d s)
unfolding compared
compared-good op d s r = flags-good _ r

pub record GoodMoved (x : Moved) : Type 0 where
  pub regs : GoodRegs x.regs
  pub csrs : GoodCsrs x.csrs

pub moved-good : (op : MoveOp) {g k : List ℕ} (o d s : ℕ) → GoodRegs g → GoodCsrs k → GoodMoved (moved op g k o d s)
unfolding moved
moved-good Csrr o d s r t = record { regs = reg-set d r (csr-in s t); csrs = t }
moved-good Csrw o d s r t = record { regs = r; csrs = csrs-written d t (r.words.at s) }
moved-good Exch o d s r t = record { regs = reg-set s (reg-set d r (r.words.at s)) (r.words.at d); csrs = t }
moved-good Mv o d s r t = record { regs = reg-set d r (r.words.at s); csrs = t }
moved-good MvIf {g} o d s r t = record { regs = picked GoodRegs (condition_holds o (word g F)) (reg-set d r (r.words.at s)) r; csrs = t }
moved-good Reti o d s r t =
    record { regs = reg-set IA (reg-set PC (reg-set F r (below 16 _)) (r.words.at IA)) (t.words.at 1); csrs = t }
