-- What each legal instruction does that loads or stores, by groups. Below, g are the registers, v the devices, b all that the state has beside registers and
-- CSRs, m the RAM; the instruction's opcode is o, its destination d, its source s. A result is told from what stood before it: "Operands are read before results are stored".
use Rattle.std.specs.Prelude.{cond, List, ℕ, set}
use Rattle.word.specs.Word.{plus_at, minus_at, join_at, low_at, high_at}
use Rattle.isa.specs.Opcode.{condition_holds}
use Rattle.isa.specs.declared.opcode.LoadOp.{LoadOp}
use Rattle.isa.specs.declared.opcode.LoadOp.TheVariants.{Ld, Ldb, Ldis, LdIf, LdisIf}
use Rattle.isa.specs.declared.opcode.StoreOp.{StoreOp}
use Rattle.isa.specs.declared.opcode.StoreOp.TheVariants.{Sto, Stob, Ddsto}
use Rattle.names.specs.Names.{F}
use Rattle.bus.specs.State.{word}
use Rattle.bus.specs.Addresses.{byte_at, word_at, Bus, bus, put_byte, put_word}
use Rattle.bus.specs.declared.state.Board.{Board}
use Rattle.bus.specs.declared.state.Devices.{Devices}

-- registers, and how many bytes were loaded
pub record Loaded : Type 0 where
  pub regs : List ℕ
  pub bytes : ℕ

abbrev pub loads : List ℕ → ℕ → Loaded
loads g n = record { regs = g; bytes = n }

abbrev pub loaded_word : List ℕ → Devices → List ℕ → ℕ → ℕ → Loaded
loaded_word g v m d s = loads (set g d (word_at v m (word g s))) 2

-- "ldb replaces the lower byte only."
abbrev pub loaded_byte : List ℕ → Devices → List ℕ → ℕ → ℕ → Loaded
loaded_byte g v m d s = loads (set g d (join_at 8 (byte_at v m (word g s)) (high_at 8 (word g d)))) 1

abbrev pub plus2 : List ℕ → ℕ → List ℕ
plus2 g i = set g i (plus_at 16 (word g i) 2)

unfoldable pub loaded : LoadOp → List ℕ → Devices → List ℕ → ℕ → ℕ → ℕ → Loaded
loaded Ld g v m o d s = loaded_word g v m d s
loaded Ldb g v m o d s = loaded_byte g v m d s
-- "ldis gives the loaded word plus 2" where one register is both: the source gains 2 after the load
loaded Ldis g v m o d s = loads (plus2 (loaded_word g v m d s).regs s) 2
loaded LdIf g v m o d s = cond (condition_holds o (word g F)) (loaded_word g v m d s) (loads g 0)
-- "test true loads and doesn't increment; test false adds 2 to the source"
loaded LdisIf g v m o d s = cond (condition_holds o (word g F)) (loaded_word g v m d s) (loads (plus2 g s) 0)

-- registers, devices and RAM, how many bytes were written through memory, "ignored writes counted too", and the first of their addresses
pub record Stored : Type 0 where
  pub regs : List ℕ
  pub bus : Bus
  pub count : ℕ
  pub first : ℕ

abbrev pub stores : List ℕ → Bus → ℕ → ℕ → Stored
stores g u n a = record { regs = g; bus = u; count = n; first = a }

abbrev pub stored_word : List ℕ → Board → List ℕ → ℕ → ℕ → Stored
stored_word g b m d s = stores g (put_word (bus b m) (word g d) (word g s)) 2 (word g d)

abbrev pub stored_byte : List ℕ → Board → List ℕ → ℕ → ℕ → Stored
stored_byte g b m d s = stores g (put_byte (bus b m) (word g d) (low_at 8 (word g s))) 1 (word g d)

abbrev pub minus2 : List ℕ → ℕ → List ℕ
minus2 g i = set g i (minus_at 16 (word g i) 2)

unfoldable pub stored : StoreOp → List ℕ → Board → List ℕ → ℕ → ℕ → Stored
stored Sto g b m d s = stored_word g b m d s
stored Stob g b m d s = stored_byte g b m d s
-- "ddsto stores the decremented number" where one register is both: the destination loses 2 before the store
stored Ddsto g b m d s = stored_word (minus2 g d) b m d s
