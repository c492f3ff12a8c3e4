-- What an exception and the end of an instruction keep: the state stays good.
use mathlib.Core.List.{List}
use Prim.Native.Nat.{ℕ, ◌≤◌}
use native.Mathlib.Omega.{arith}
use Rattle.word.specs.Word.{join_at, low_at}
use Rattle.word.proofs.Width.{low_below}
use Rattle.word.proofs.Digits.{below}
use Rattle.names.specs.Names.{F, IA, PC}
use Rattle.bus.specs.State.{word}
use Rattle.bus.specs.Good.{GoodRegs, GoodCsrs, Good}
use Rattle.bus.specs.declared.state.Cpu.{Cpu}
use Rattle.bus.proofs.Kept.{picked, reg-set, csr0-set}
use Rattle.exceptions.specs.Exceptions.{pending, entered, illegal, turned_on, settle, settled_csrs}

-- the end of an instruction
pub settled-good : (f0 : ℕ) {c : Cpu} → Good c → Good (settle f0 c)
unfolding settled_csrs
settled-good f0 {c} r =
    let l : low_at 8 (word c.csrs 0) ≤ 511 = omega (arith, low_below 8 (word c.csrs 0)) in
    record { regs = r.regs; csrs = picked GoodCsrs (pending (turned_on f0 (word c.regs F))) (csr0-set r.csrs l) r.csrs; board = record { devices = r.board.devices } }

pub illegal-good : (reason : ℕ) {c : Cpu} → reason ≤ 2 → Good c → Good (illegal reason c)
unfolding illegal
illegal-good reason h r =
    let l : join_at 8 reason 1 ≤ 511 = omega (arith, h) in
    record { regs = reg-set F r.regs (below 16 _); csrs = csr0-set r.csrs l; board = record { devices = r.board.devices } }

-- the entry of an interrupt
pub entered-good : {g : List ℕ} → GoodRegs g → GoodRegs (entered g)
unfolding entered
entered-good r = reg-set IA (reg-set PC (reg-set F r (below 16 _)) (r.words.at IA)) (r.words.at PC)
