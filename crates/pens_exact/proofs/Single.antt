-- No second result: a pen's promise, and that of its export, leave one result, one memory and one journal.
use Prim.Native.Nat.{ℕ, zero, suc}
use mathlib.Core.Path.{◌≡◌, refl, ◌∙◌, sym, ap}
use mathlib.Core.Bool.{cond}
use mathlib.Core.List.{List}
use lib.Dec.{eqb}
use Rattle.std.specs.Prelude.{Result, Ok, Err}
use Rattle.calls.specs.declared.state.Refusal.TheVariants as Check
use Rattle.utf8.specs.declared.Unfit.TheVariants.{NotUtf8, NotLatin}
use Rattle.boundary.specs.Boundary.{Crossed}
use Rattle.pens.specs.Pen.{Penned}
use Rattle.pens.specs.Code.{number_in, report_as}
use Rattle.pens.specs.declared.checking.Refusal.{Refusal}
use Rattle.pens.specs.declared.checking.Refusal.TheVariants.{Machine, NotHeld, Name, NoRoom}
use Rattle.pens.specs.declared.Report.{Report}
use Rattle.pen_crossing.specs.Crossing.{CrossesPen}
use Rattle.exact.proofs.Single.{refusal_from as check_refusal}
use Rattle.pens_exact.specs.Nights.{report_from}

-- of `pen` the answer is `pen_of`, of `pen_named` it is `pen_named`
pub single-pen : (a : Penned) (r : Report) (ram ws : List ℕ) (r' : Report) (ram' ws' : List ℕ)
    → a ≡ report_as r ram ws → a ≡ report_as r' ram' ws' → (r ≡ r') × (ram ≡ ram') × (ws ≡ ws')
single-pen a r ram ws r' ram' ws' p q =
    let e = sym p ∙ q in
    (ap report_from e, ap (λ (a : Penned). a.world.box.ram) e, ap (λ (a : Penned). a.world.journal.words) e)

-- what refuses a whole list (`refusal`), read back from the number that is promised
abbrev refusal_from : ℕ → Refusal
refusal_from n =
    cond (eqb n 80) (Name NotUtf8)
    (cond (eqb n 81) (Name NotLatin)
    (cond (eqb n 82) NoRoom
    (cond (eqb n 83) NotHeld (Machine (check_refusal n)))))

abbrev answer_from : ℕ → Result (Unit {0}) Refusal
answer_from zero = Ok tt
answer_from (suc n) = Err (refusal_from (suc n))

answer-back : (r : Result (Unit {0}) Refusal) → answer_from (number_in r) ≡ r
answer-back (Ok t) = refl
answer-back (Err NotHeld) = refl
answer-back (Err (Name NotUtf8)) = refl
answer-back (Err (Name NotLatin)) = refl
answer-back (Err NoRoom) = refl
answer-back (Err (Machine Check.RamTooLong)) = refl
answer-back (Err (Machine Check.BadJournal)) = refl
answer-back (Err (Machine Check.BadState)) = refl
answer-back (Err (Machine Check.Halted)) = refl
answer-back (Err (Machine Check.NotReady)) = refl
answer-back (Err (Machine Check.NoRegister)) = refl
answer-back (Err (Machine Check.NotRam)) = refl
answer-back (Err (Machine Check.NoRecord)) = refl
answer-back (Err (Machine Check.BadRecord)) = refl

-- two answers of the number that is promised are the same
pub single-refusal : (n : ℕ) (r r' : Result (Unit {0}) Refusal) → number_in r ≡ n → number_in r' ≡ n → r ≡ r'
single-refusal n r r' p q = sym (answer-back r) ∙ ap answer_from (p ∙ sym q) ∙ answer-back r'

pub single-pen-export : (line today last setup w ram ws : List ℕ) (r : ℕ) (w₁ ram₁ ws₁ : List ℕ) (r' : ℕ) (w₂ ram₂ ws₂ : List ℕ)
    → CrossesPen line today last setup w ram ws r w₁ ram₁ ws₁ → CrossesPen line today last setup w ram ws r' w₂ ram₂ ws₂
    → (r ≡ r') × (w₁ ≡ w₂) × (ram₁ ≡ ram₂) × (ws₁ ≡ ws₂)
single-pen-export line today last setup w ram ws r w₁ ram₁ ws₁ r' w₂ ram₂ ws₂ p q =
    let e = sym p ∙ q in
    (ap (λ (x : Crossed). x.result) e, ap (λ (x : Crossed). x.words) e, ap (λ (x : Crossed). x.ram) e, ap (λ (x : Crossed). x.journal) e)
