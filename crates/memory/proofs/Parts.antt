-- From what the parts of a store leave to its rule, where tests choose among them.
use mathlib.Core.Path.{◌≡◌, refl, sym, ◌∙◌}
use mathlib.Core.Bool.{Bool, true, false, cond}
use mathlib.Core.List.{List}
use Prim.Native.Nat.{ℕ}
use Rattle.word.specs.Word.{low_at}
use Rattle.isa.specs.declared.opcode.StoreOp.{StoreOp}
use Rattle.isa.specs.declared.opcode.StoreOp.TheVariants.{Sto, Stob, Ddsto}
use Rattle.bus.specs.State.{word}
use Rattle.bus.specs.Addresses.{bus, put_byte, put_word}
use Rattle.bus.specs.declared.state.Board.{Board}
use Rattle.memory.specs.Instructions.{stores, stored_word, stored_byte, minus2, stored}
use Rattle.memory.specs.Code.{stores_byte, lowers, over_of}

-- a store, by what is asked of its operation
store-asked : (op : StoreOp) (g : List ℕ) (b : Board) (m : List ℕ) (d s : ℕ) → stored op g b m d s
    ≡ cond (stores_byte op) (stored_byte (cond (lowers op) (minus2 g d) g) b m d s) (stored_word (cond (lowers op) (minus2 g d) g) b m d s)
unfolding stored
store-asked Sto g b m d s = refl
store-asked Stob g b m d s = refl
store-asked Ddsto g b m d s = refl

-- registers before and after the decrement, the board, memory, destination, source, and whether a byte is stored
module _ (g g' : List ℕ) (u : Board) (m : List ℕ) (d s : ℕ) (op : StoreOp) (l b : Bool) (el : l ≡ lowers op) (r : g' ≡ cond l (minus2 g d) g)
    (e : b ≡ stores_byte op) where
  pub byte-stores : b ≡ true → (y : ℕ) → y ≡ low_at 8 (word g' s)
      → over_of m (stores g' (put_byte (bus u m) (word g' d) y) 1 (word g' d)) ≡ over_of m (stored op g u m d s)
  byte-stores p y z = rw (store-asked op g u m d s, sym e ∙ p, sym el, sym r, z)

  pub word-stores : b ≡ false
      → over_of m (stores g' (put_word (bus u m) (word g' d) (word g' s)) 2 (word g' d)) ≡ over_of m (stored op g u m d s)
  word-stores p = rw (store-asked op g u m d s, sym e ∙ p, sym el, sym r)
