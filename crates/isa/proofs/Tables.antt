-- What the table tells, read at one opcode.
use mathlib.Core.Path.{◌≡◌, refl, ap}
use mathlib.Core.Bool.{true}
use mathlib.Core.List.{List}
use Prim.Native.Nat.{ℕ, ◌≤◌, ◌<◌}
use lib.Dec.{leb}
use native.Mathlib.Omega.{arith}
use borrow.Author.Tests.{leb-true}
use Rattle.isa.specs.Opcode.{meaning, reason_of}
use Rattle.names.specs.Code.{pack}
use Rattle.isa.specs.Code.{key_at, kind_ops, kind_op, kind_names, flag_keys, ended, under, kind_name, op_in, name_in, TellsAll}
use Rattle.isa.specs.declared.opcode.TheConstants.{TABLE}
use Rattle.isa.specs.declared.opcode.Op.{Op}
use Rattle.letters.proofs.Lists.{agree, ranged}

-- The one computed test: what the kinds tell, against the meaning of each of the 256 opcode bytes.
pub told : TellsAll TABLE
unfolding TellsAll op_in name_in kind_op kind_ops kind_name kind_names flag_keys ended under meaning
told = refl

tells : (t : List ℕ) → TellsAll t → (o : ℕ) → o < 256 → ◌≡◌ {A = ℕ × Op} (name_in t o, op_in t o) (key_at o, (meaning o).op)
unfolding TellsAll
tells t e = agree (key_at 0, (meaning 0).op) (λ o. (name_in t o, op_in t o)) (λ o. (key_at o, (meaning o).op)) 256 e

pub tells-op : (t : List ℕ) → TellsAll t → (o : ℕ) → o < 256 → op_in t o ≡ (meaning o).op
tells-op t e o h = ap (λ (p : ℕ × Op). p.1) (tells t e o h)

pub tells-name : (t : List ℕ) → TellsAll t → (o : ℕ) → o < 256 → name_in t o ≡ pack (meaning o).name
tells-name t e o h = ap (λ (p : ℕ × Op). p.0) (tells t e o h)

-- a reason is 1 or 2, and 0 stands for a legal opcode
pub reason-small : (opcode : ℕ) → opcode < 256 → reason_of (meaning opcode).op ≤ 2
unfolding meaning
reason-small opcode h = leb-true _ _ (ranged (λ o. leb (reason_of (meaning o).op) 2) true 0 256 refl opcode (omega arith) h)
