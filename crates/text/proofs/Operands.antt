-- The number of an operand is a register's.
use mathlib.Core.Path.{◌≡◌, refl}
use mathlib.Core.Bool.{Bool, true, false}
use mathlib.Core.List.{List}
use Prim.Native.Nat.{ℕ, ◌≤◌}
use Rattle.std.specs.Prelude.{Option, Some, None, IfSome}
use Rattle.names.specs.Names.{reg_named, csr_named}
use Rattle.names.specs.declared.register.Reg.{Reg}
use Rattle.names.specs.declared.register.Csr.{Csr}
use Rattle.names.proofs.Spelling.{reg-small, csr-small}
use Rattle.text.specs.Assembling.{reg_number, csr_number, operand_of}

numbered : (is_csr : Bool) (w : List ℕ) → IfSome (operand_of is_csr w) (λ n. n ≤ 15)
numbered true w = go (csr_named w) refl
  where
    go : (f : Option Csr) → csr_named w ≡ f → IfSome (csr_number f) (λ n. n ≤ 15)
    go (Some c) e = csr-small w c e
    go None e = tt
numbered false w = go (reg_named w) refl
  where
    go : (f : Option Reg) → reg_named w ≡ f → IfSome (reg_number f) (λ n. n ≤ 15)
    go (Some r) e = reg-small w r e
    go None e = tt

pub small : (is_csr : Bool) (w : List ℕ) {o : Option ℕ} → o ≡ operand_of is_csr w → IfSome o (λ n. n ≤ 15)
small is_csr w e = rw e (numbered is_csr w)
