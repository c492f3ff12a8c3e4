-- No second answer satisfies a contract: the answer is read back from the paper's number and value.
use mathlib.Core.Path.{◌≡◌, refl, sym, ap, ◌∙◌}
use mathlib.Core.Bool.{cond}
use lib.Dec.{eqb}
use Rattle.text.specs.Answer.{Answer, listed_as, assembled_as}
use Prim.Native.Nat.{ℕ}
use Rattle.std.specs.Prelude.{Result, Ok, Err}
use Rattle.text.specs.declared.list.NoText.{NoText}
use Rattle.text.specs.declared.list.NoText.TheVariants.{Reason2, NoRoom}
use Rattle.text.specs.declared.assemble.NoWord.{NoWord}
use Rattle.text.specs.declared.assemble.NoWord.TheVariants.{BadLine, BadMnemonic, BadOperand}

pub read_back : {A : Type 0} (told : A → Answer) (of : Answer → A) → ((r : A) → of (told r) ≡ r) → (r s : A) → told r ≡ told s → r ≡ s
read_back told of back r s e = sym (back r) ∙ ap of e ∙ back s

abbrev listed_of : Answer → Result ℕ NoText
listed_of a = cond (eqb a.no 10) (Err Reason2) (cond (eqb a.no 11) (Err NoRoom) (Ok a.value))

listed_back : (r : Result ℕ NoText) → listed_of (listed_as r) ≡ r
listed_back (Ok n) = refl
listed_back (Err Reason2) = refl
listed_back (Err NoRoom) = refl

pub listed-one : (r s : Result ℕ NoText) → listed_as r ≡ listed_as s → r ≡ s
listed-one = read_back listed_as listed_of listed_back

abbrev assembled_of : Answer → Result ℕ NoWord
assembled_of a = cond (eqb a.no 12) (Err BadLine) (cond (eqb a.no 13) (Err BadMnemonic) (cond (eqb a.no 14) (Err BadOperand) (Ok a.value)))

assembled-back : (r : Result ℕ NoWord) → assembled_of (assembled_as r) ≡ r
assembled-back (Ok w) = refl
assembled-back (Err BadLine) = refl
assembled-back (Err BadMnemonic) = refl
assembled-back (Err BadOperand) = refl

pub assembled-one : (r s : Result ℕ NoWord) → assembled_as r ≡ assembled_as s → r ≡ s
assembled-one = read_back assembled_as assembled_of assembled-back
