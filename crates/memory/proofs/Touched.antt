-- What a store changes of memory: the bytes that it counts and no others, and of them none that is protected.
use mathlib.Core.List.{List}
use Prim.Native.Nat.{ℕ}
use Rattle.word.specs.Word.{low_at}
use Rattle.isa.specs.declared.opcode.StoreOp.{StoreOp}
use Rattle.isa.specs.declared.opcode.StoreOp.TheVariants.{Sto, Stob, Ddsto}
use Rattle.bus.specs.State.{word}
use Rattle.bus.specs.Addresses.{bus}
use Rattle.bus.specs.Good.{Changed}
use Rattle.bus.specs.declared.state.Board.{Board}
use Rattle.bus.proofs.Touched.{byte-changes, word-changes}
use Rattle.bus.proofs.Spared.{SparesBus, byte-spares, word-spares}
use Rattle.memory.specs.Instructions.{minus2, stored}

pub stored-changes : (op : StoreOp) (g : List ℕ) (b : Board) (m : List ℕ) (d s : ℕ)
    → Changed m (stored op g b m d s).first (stored op g b m d s).count (stored op g b m d s).bus.ram
unfolding stored
stored-changes Sto g b m d s = word-changes (bus b m) (word g d) (word g s)
stored-changes Stob g b m d s = byte-changes (bus b m) (word g d) (low_at 8 (word g s))
stored-changes Ddsto g b m d s = let h = minus2 g d in word-changes (bus b m) (word h d) (word h s)

-- Q-4: protected addresses and the RAM bytes at them stay
pub stored-spares : (op : StoreOp) (g : List ℕ) (b : Board) (m : List ℕ) (d s : ℕ) → SparesBus (bus b m) (stored op g b m d s).bus
unfolding stored
stored-spares Sto g b m d s = word-spares (bus b m) (word g d) (word g s)
stored-spares Stob g b m d s = byte-spares (bus b m) (word g d) (low_at 8 (word g s))
stored-spares Ddsto g b m d s = let h = minus2 g d in word-spares (bus b m) (word h d) (word h s)
