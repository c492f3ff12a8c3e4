-- Lists made by a function, and rules that hold at each place of such a list.
use mathlib.Core.Path.{◌≡◌, sym, ap, ◌∙◌}
use mathlib.Core.List.{List}
use Prim.Native.Nat.{ℕ, zero, suc, ◌+◌, ◌-◌, ◌<◌, ◌≤◌}
use native.Mathlib.Omega.{arith}
use native.Mathlib.Nat.{add-zero, zero-add, add-suc, suc-add, le_of_suc-le-suc, not-suc-le-zero}
use lib.ListN.{get_or}
use Rattle.letters.specs.Lists.{images}

pub images-at : {A : Type 0} (d : A) (f : ℕ → A) (i n k : ℕ) → k < n → get_or (images f i n) k d ≡ f (i + k)
images-at d f i zero k h = absurd (not-suc-le-zero h)
images-at d f i (suc n) zero h = ap f (sym (add-zero i))
images-at d f i (suc n) (suc k) h = images-at d f (suc i) n k (le_of_suc-le-suc h) ∙ ap f (suc-add i k ∙ sym (add-suc i k))

-- two functions that agree at each number below n
pub agree : {A : Type 0} (d : A) (f g : ℕ → A) (n : ℕ) → images f 0 n ≡ images g 0 n → (k : ℕ) → k < n → f k ≡ g k
agree {A = A} d f g n e k h =
    ap f (sym (zero-add k)) ∙ sym (images-at d f 0 n k h) ∙ ap (λ (l : List A). get_or l k d) e ∙ images-at d g 0 n k h ∙ ap g (zero-add k)

-- a function that has one value over n numbers from i on
pub ranged : {A : Type 0} (f : ℕ → A) (v : A) (i n : ℕ) → images f i n ≡ images (λ k. v) i n → (k : ℕ) → i ≤ k → k < i + n → f k ≡ v
ranged {A = A} f v i n e k h l =
    let m : i + (k - i) ≡ k = omega arith in
    let b : k - i < n = omega arith in
    ap f (sym m) ∙ sym (images-at v f i n (k - i) b) ∙ ap (λ (x : List A). get_or x (k - i) v) e ∙ images-at v (λ k. v) i n (k - i) b
