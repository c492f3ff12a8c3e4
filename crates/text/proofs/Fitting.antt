-- A text that is stored at the front of an output, in one piece or piece after piece.
use mathlib.Core.Path.{◌≡◌, ap, ◌∙◌}
use mathlib.Core.List.{List, [], ◌∷◌, ◌++◌}
use Prim.Native.Nat.{ℕ, suc, ◌+◌, ◌<◌, ◌≤◌}
use native.Mathlib.Nat.{add-zero}
use native.Mathlib.Omega.{arith}
use borrow.Author.Tests.{le-ltb, lt-ltb}
use lib.ListN.{length, set, length-append}
use lib.Seq.{sets, sets-eq}
use Rattle.text.specs.Answer.{accepted, refused}
use Rattle.text.specs.Listing.{fit_says, fit_leaves}

pub sets-append : (l : List ℕ) (i : ℕ) (xs ys : List ℕ) → sets (sets l i xs) (i + length xs) ys ≡ sets l i (xs ++ ys)
sets-append l i [] ys = rw add-zero
sets-append l i (x ∷ xs) ys =
    let e : i + suc (length xs) ≡ suc i + length xs = omega arith in
    rw e (sets-append (set l i x) (suc i) xs ys)

pub three-length : (a b c : List ℕ) → length (a ++ b ++ c) ≡ length a + length b + length c
three-length a b c = simp length-append (omega arith)

pub three : (out a b c : List ℕ) (i j : ℕ) → i ≡ 0 + length a → j ≡ i + length b → sets (sets (sets out 0 a) i b) j c ≡ sets out 0 (a ++ b ++ c)
three out a b c i j ei ej =
    let e : 0 + length a + length b ≡ 0 + length (a ++ b) = rw (length-append a b) (omega arith) in
    rw (ej, ei, sets-append out 0 a b, e, sets-append out 0 (a ++ b) c)

-- with room for it, and with none
pub fitting : (t out : List ℕ) (n : ℕ) (left : List ℕ) → length t ≤ length out → n ≡ length t → left ≡ sets out 0 t
    → (accepted n ≡ fit_says t (length out)) × (left ≡ fit_leaves t out)
fitting t out n left h p q =
    let z : 0 + length t ≡ length t = omega arith in
    (rw (le-ltb _ _ h) (ap accepted p), rw (le-ltb _ _ h) (q ∙ sets-eq t out 0 (omega arith) ∙ (rw z)))

pub unfitting : (t out : List ℕ) → length out < length t → (refused 11 ≡ fit_says t (length out)) × (out ≡ fit_leaves t out)
unfitting t out h = (rw (lt-ltb _ _ h), rw (lt-ltb _ _ h))
