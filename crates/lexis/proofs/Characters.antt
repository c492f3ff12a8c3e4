-- What a character constant is worth, from what was read of it.
use Prim.Native.Nat.{ℕ, ◌+◌, ◌*◌}
use mathlib.Core.Path.{◌≡◌, refl, sym, ap, ◌∙◌}
use mathlib.Core.Bool.{Bool, true, false, cond}
use mathlib.Core.List.{List, [], ◌∷◌}
use Rattle.std.specs.Prelude.{Option, Some, None, Result, Ok, Err}
use native.Mathlib.Omega.{arith}
use borrow.Author.Tests.{lt-leb}
use lib.Dec.{leb}
use lib.ListN.{length, get_or}
use Rattle.quoted.specs.Quoted.{chars_say, chars_leave}
use Rattle.lexis.specs.Numbers.{of_chars}
use Rattle.lexis.specs.Code.{chars_value}
use Rattle.lexis.specs.declared.numbers.Fault.TheVariants as Number
use Rattle.quoted.specs.declared.Fault.{Fault}
use Rattle.quoted.specs.declared.Fault.TheVariants.{Bad, NoRoom}

abbrev weight : Result ℕ Fault → ℕ
weight (Ok n) = 2 + n
weight (Err Bad) = 0
weight (Err NoRoom) = 1

-- more than two characters
long : (a b c : ℕ) (cs : List ℕ) → leb (length (a ∷ b ∷ c ∷ cs)) 2 ≡ false
long a b c cs = lt-leb (length (a ∷ b ∷ c ∷ cs)) 2 (omega arith)

pub chars-are : (x : Option (List ℕ)) (n : ℕ) (two : List ℕ) → chars_say x 2 ≡ Ok n → two ≡ chars_leave x (0 ∷ 0 ∷ [])
    → Ok (chars_value (get_or two 0 0) (get_or two 1 0) n) ≡ of_chars x
unfolding chars_say chars_leave
chars-are None n two e t = let y : 0 ≡ 2 + n = ap weight e in absurd (omega arith)
chars-are (Some []) n two e t = let y : 2 + 0 ≡ 2 + n = ap weight e in let m : n ≡ 0 = omega arith in rw (t, m)
chars-are (Some (a ∷ [])) n two e t =
    let y : 2 + 1 ≡ 2 + n = ap weight e in
    let m : n ≡ 1 = omega arith in
    let z : a + 256 * 0 ≡ a = omega arith in
    rw (t, m) (ap (λ (v : ℕ). Ok (record { bits = v; word = false; negative = false })) z)
chars-are (Some (a ∷ b ∷ [])) n two e t = let y : 2 + 2 ≡ 2 + n = ap weight e in let m : n ≡ 2 = omega arith in rw (t, m)
chars-are (Some (a ∷ b ∷ c ∷ cs)) n two e t =
    let y : 1 ≡ 2 + n = sym (ap (λ (t : Bool). weight (cond t (Ok (length (a ∷ b ∷ c ∷ cs))) (Err NoRoom))) (long a b c cs)) ∙ ap weight e in absurd (omega arith)

chars-bad : (x : Option (List ℕ)) → chars_say x 2 ≡ Err Bad → Err Number.Bad ≡ of_chars x
unfolding chars_say
chars-bad None e = refl
chars-bad (Some cs) e = go (leb (length cs) 2) e
  where
    go : (t : Bool) → cond t (Ok (length cs)) (Err NoRoom) ≡ Err Bad → Err Number.Bad ≡ of_chars (Some cs)
    go true e = let y : 2 + length cs ≡ 0 = ap weight e in absurd (omega arith)
    go false e = let y : ◌≡◌ {A = ℕ} 1 0 = ap weight e in absurd (omega arith)

chars-many : (x : Option (List ℕ)) → chars_say x 2 ≡ (Err NoRoom) → Err Number.Bad ≡ of_chars x
unfolding chars_say
chars-many None e = let y : ◌≡◌ {A = ℕ} 0 1 = ap weight e in absurd (omega arith)
chars-many (Some []) e = let y : ◌≡◌ {A = ℕ} 2 1 = ap weight e in absurd (omega arith)
chars-many (Some (a ∷ [])) e = let y : ◌≡◌ {A = ℕ} 3 1 = ap weight e in absurd (omega arith)
chars-many (Some (a ∷ b ∷ [])) e = let y : ◌≡◌ {A = ℕ} 4 1 = ap weight e in absurd (omega arith)
chars-many (Some (a ∷ b ∷ c ∷ cs)) e = refl

pub chars_none : (x : Option (List ℕ)) (f : Fault) → chars_say x 2 ≡ Err f → Err Number.Bad ≡ of_chars x
chars_none x Bad e = chars-bad x e
chars_none x NoRoom e = chars-many x e
