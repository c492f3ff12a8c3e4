-- What loads and stores keep: registers, devices and memory stay good.
use mathlib.Core.List.{List}
use Prim.Native.Nat.{ℕ}
use Rattle.word.proofs.Width.{low_below, high-below, join-below, plus-below, minus-below}
use Rattle.isa.specs.Opcode.{condition_holds}
use Rattle.isa.specs.declared.opcode.LoadOp.{LoadOp}
use Rattle.isa.specs.declared.opcode.LoadOp.TheVariants.{Ld, Ldb, Ldis, LdIf, LdisIf}
use Rattle.isa.specs.declared.opcode.StoreOp.{StoreOp}
use Rattle.isa.specs.declared.opcode.StoreOp.TheVariants.{Sto, Stob, Ddsto}
use Rattle.names.specs.Names.{F}
use Rattle.bus.specs.State.{word}
use Rattle.bus.specs.Good.{Within, GoodRegs, GoodDevices, GoodBoard}
use Rattle.bus.specs.declared.state.Board.{Board}
use Rattle.bus.specs.declared.state.Devices.{Devices}
use Rattle.bus.proofs.Kept.{picked, reg-set, byte-in, word_in, GoodBus, byte_put, word-put}
use Rattle.memory.specs.Instructions.{Loaded, loaded, plus2, minus2, Stored, stored}

plus2-good : {g : List ℕ} (i : ℕ) → GoodRegs g → GoodRegs (plus2 g i)
plus2-good {g} i r = reg-set i r (plus-below 16 (word g i) 2)

minus2-good : {g : List ℕ} (i : ℕ) → GoodRegs g → GoodRegs (minus2 g i)
minus2-good {g} i r = reg-set i r (minus-below 16 (word g i) 2)

pub loaded-good : (op : LoadOp) {g : List ℕ} {v : Devices} {m : List ℕ} (o d s : ℕ) → GoodRegs g → GoodDevices v → Within 8 m → GoodRegs (loaded op g v m o d s).regs
unfolding loaded
loaded-good Ld {g} o d s r gv gm = reg-set d r (word_in gv gm (word g s))
loaded-good Ldb {g} o d s r gv gm = reg-set d r (join-below 8 8 (byte-in gv gm (word g s)) (high-below 8 8 (r.words.at d)))
loaded-good Ldis {g} o d s r gv gm = plus2-good s (reg-set d r (word_in gv gm (word g s)))
loaded-good LdIf {g} o d s r gv gm =
    picked (λ (x : Loaded). GoodRegs x.regs) (condition_holds o (word g F)) (reg-set d r (word_in gv gm (word g s))) r
loaded-good LdisIf {g} o d s r gv gm =
    picked (λ (x : Loaded). GoodRegs x.regs) (condition_holds o (word g F)) (reg-set d r (word_in gv gm (word g s))) (plus2-good s r)

pub record GoodStored (x : Stored) : Type 0 where
  pub regs : GoodRegs x.regs
  pub bus : GoodBus x.bus

pub stored-good : (op : StoreOp) {g : List ℕ} {b : Board} {m : List ℕ} (d s : ℕ) → GoodRegs g → GoodBoard b → Within 8 m → GoodStored (stored op g b m d s)
unfolding stored
stored-good Sto {g} d s r gb gm = record { regs = r; bus = word-put (word g d) (record { board = gb; ram = gm }) (r.words.at s) }
stored-good Stob {g} d s r gb gm = record { regs = r; bus = byte_put (word g d) (record { board = gb; ram = gm }) (low_below 8 (word g s)) }
stored-good Ddsto {g} d s r gb gm =
    let r' = minus2-good d r in
    record { regs = r'; bus = word-put (word (minus2 g d) d) (record { board = gb; ram = gm }) (r'.words.at s) }
