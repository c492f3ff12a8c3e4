-- How the code's answers stand for the rules: what `load` and `store` ask of their operation before they act, and a store with the bytes that it
-- wrote over. No rules: proofs/Parts.antt shows that they lead to those of Instructions.
use Rattle.std.specs.Prelude.{Bool, true, false, List, ℕ}
use Rattle.word.specs.Memory.{old_bytes}
use Rattle.isa.specs.declared.opcode.LoadOp.{LoadOp}
use Rattle.isa.specs.declared.opcode.LoadOp.TheVariants.{Ld, Ldb, Ldis, LdIf, LdisIf}
use Rattle.isa.specs.declared.opcode.StoreOp.{StoreOp}
use Rattle.isa.specs.declared.opcode.StoreOp.TheVariants.{Sto, Stob, Ddsto}
use Rattle.bus.specs.Addresses.{bus}
use Rattle.memory.specs.Instructions.{Stored, stores}
use Rattle.memory.specs.declared.storing.Written.{Written}

-- a byte is loaded, not a word
abbrev pub loads_byte : LoadOp → Bool
loads_byte Ld = false
loads_byte Ldb = true
loads_byte Ldis = false
loads_byte LdIf = false
loads_byte LdisIf = false

-- the load takes place, by whether the condition holds
abbrev pub goes : LoadOp → Bool → Bool
goes Ld t = true
goes Ldb t = true
goes Ldis t = true
goes LdIf t = t
goes LdisIf t = t

-- the source gains 2 after a load
abbrev pub steps_after : LoadOp → Bool
steps_after Ld = false
steps_after Ldb = false
steps_after Ldis = true
steps_after LdIf = false
steps_after LdisIf = false

-- the source gains 2 where nothing is loaded
abbrev pub steps_past : LoadOp → Bool
steps_past Ld = false
steps_past Ldb = false
steps_past Ldis = false
steps_past LdIf = false
steps_past LdisIf = true

-- a byte is stored, not a word
abbrev pub stores_byte : StoreOp → Bool
stores_byte Sto = false
stores_byte Stob = true
stores_byte Ddsto = false

-- the destination loses 2 before the store
abbrev pub lowers : StoreOp → Bool
lowers Sto = false
lowers Stob = false
lowers Ddsto = true

-- a store with the bytes that it wrote over
pub record Over : Type 0 where
  pub stored : Stored
  pub old : ℕ

-- by the rules, from the memory before
abbrev pub over_of : List ℕ → Stored → Over
over_of m x = record { stored = x; old = old_bytes m x.count x.first }

-- by the code: lent registers and memory as they are left, and the rest as it is returned
abbrev pub over_as : List ℕ → Written → List ℕ → Over
over_as g q m = record { stored = stores g (bus q.board m) q.count q.first; old = q.old }
