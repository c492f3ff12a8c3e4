-- What stands in front of a line: how far its digits go, and that the code reads the number that the rules do.
use Prim.Native.Nat.{ℕ, zero, suc, ◌+◌, ◌-◌, ◌*◌, ◌^◌, ◌≤◌, ◌<◌}
use mathlib.Core.Path.{◌≡◌, refl, sym, ap, subst, ◌∙◌}
use mathlib.Core.Bool.{Bool, true, false, cond, ◌&&◌}
use mathlib.Core.List.{List, [], ◌∷◌}
use native.Mathlib.Omega.{arith}
use native.Mathlib.Nat.{pow-suc, pow-le-pow_right}
use native.Mathlib.Numerals.{add-one}
use borrow.Author.Tests.{leb-true, le-leb}
use lib.Dec.{leb}
use lib.ListN.{length, get_or, take, drop, drop_of_length-le}
use lib.Seq.{drop-cons, take_all}
use Rattle.manifests.specs.Manifests.{is_digit, all_digits, value_after, number_of}
use Rattle.manifests.specs.Code.{digits_of, read_digits}
use Rattle.std.specs.Prelude.{Some, None}

pub never : {A : Type 0} → false ≡ true → A
never e = let z : ◌≡◌ {A = ℕ} 0 1 = ap (λ (t : Bool). cond t 1 0) e in absurd (omega arith)

pub both : (a b : Bool) → (a && b) ≡ true → (a ≡ true) × (b ≡ true)
both true b e = (refl, e)
both false b e = never e

-- ---- digits in front
pub digits-few : (k : ℕ) (s : List ℕ) → length (digits_of k s) ≤ k
unfolding digits_of
digits-few zero s = omega arith
digits-few (suc k) [] = omega arith
digits-few (suc k) (b ∷ s) = go (digits-few k s) (is_digit b)
  where
    go : length (digits_of k s) ≤ k → (t : Bool) → length (cond t (b ∷ digits_of k s) []) ≤ suc k
    go r true = omega arith
    go r false = omega arith

pub digits-short : (k : ℕ) (s : List ℕ) → length (digits_of k s) ≤ length s
unfolding digits_of
digits-short zero s = omega arith
digits-short (suc k) [] = omega arith
digits-short (suc k) (b ∷ s) = go (digits-short k s) (is_digit b)
  where
    go : length (digits_of k s) ≤ length s → (t : Bool) → length (cond t (b ∷ digits_of k s) []) ≤ length (b ∷ s)
    go r true = omega arith
    go r false = omega arith

digits-taken : (k : ℕ) (s : List ℕ) → take (length (digits_of k s)) s ≡ digits_of k s
unfolding digits_of
digits-taken zero s = refl
digits-taken (suc k) [] = refl
digits-taken (suc k) (b ∷ s) = go (digits-taken k s) (is_digit b)
  where
    go : take (length (digits_of k s)) s ≡ digits_of k s → (t : Bool) → take (length (cond t (b ∷ digits_of k s) [])) (b ∷ s) ≡ cond t (b ∷ digits_of k s) []
    go r true = ap (λ (l : List ℕ). b ∷ l) r
    go r false = refl

pub digits_are : (k : ℕ) (s : List ℕ) → all_digits (digits_of k s) ≡ true
unfolding digits_of
digits_are zero s = refl
digits_are (suc k) [] = refl
digits_are (suc k) (b ∷ s) = go (digits_are k s) (is_digit b) refl
  where
    go : all_digits (digits_of k s) ≡ true → (t : Bool) → is_digit b ≡ t → all_digits (cond t (b ∷ digits_of k s) []) ≡ true
    go r true e = rw e r
    go r false e = refl

-- digits that are all of a short list
digits-all : (k : ℕ) (s : List ℕ) → length s ≤ k → all_digits s ≡ true → digits_of k s ≡ s
unfolding digits_of
digits-all zero [] h e = refl
digits-all zero (b ∷ s) h e = absurd (omega arith)
digits-all (suc k) [] h e = refl
digits-all (suc k) (b ∷ s) h e =
    let p = both (is_digit b) (all_digits s) e in
    rw p.0 (ap (λ (l : List ℕ). b ∷ l) (digits-all k s (omega arith) p.1))

-- ---- the loop over digits
module _ (s : List ℕ) (n : ℕ) where
  pub digits-on : n < 9 → n < length s → is_digit (get_or s n 0) ≡ true → digits_of (9 - n) (drop n s) ≡ get_or s n 0 ∷ digits_of (9 - (n + 1)) (drop (n + 1) s)
  unfolding digits_of
  digits-on g h e =
      let k : 9 - n ≡ suc (9 - (n + 1)) = omega arith in
      rw (k, drop-cons s n 0 h, e, add-one n)

  pub digits-stop : n < 9 → n < length s → is_digit (get_or s n 0) ≡ false → digits_of (9 - n) (drop n s) ≡ []
  unfolding digits_of
  digits-stop g h e =
      let k : 9 - n ≡ suc (9 - (n + 1)) = omega arith in
      rw (k, drop-cons s n 0 h, e)

  pub digits-past : length s ≤ n → digits_of (9 - n) (drop n s) ≡ []
  unfolding digits_of
  digits-past h = rw (drop_of_length-le s h) (nothing (9 - n))
    where
      nothing : (k : ℕ) → digits_of k [] ≡ []
      nothing zero = refl
      nothing (suc k) = refl

  pub digits-nine : 9 ≤ n → digits_of (9 - n) (drop n s) ≡ []
  unfolding digits_of
  digits-nine g = let k : 9 - n ≡ 0 = omega arith in rw k

  -- after n digits, which make v
  abbrev pub Reading : ℕ → Type 0
  Reading v =
      (value_after v (digits_of (9 - n) (drop n s)) ≡ value_after 0 (digits_of 9 s)) × (n + length (digits_of (9 - n) (drop n s)) ≡ length (digits_of 9 s))

  pub read-ends : (v : ℕ) → digits_of (9 - n) (drop n s) ≡ [] → Reading v → record { value = v; count = n } ≡ read_digits s
  read-ends v e r =
      let a : v ≡ value_after 0 (digits_of 9 s) = ap (value_after v) (sym e) ∙ r.0 in
      let b : n ≡ length (digits_of 9 s) = omega (arith, ap length e, r.1) in
      cc

pub read-on : (s : List ℕ) (n v : ℕ) → n < 9 → n < length s → is_digit (get_or s n 0) ≡ true → Reading s n v → Reading s (n + 1) (v * 10 + (get_or s n 0 - 48))
read-on s n v g h e r =
    let d = digits-on s n g h e in
    (ap (value_after v) (sym d) ∙ r.0, omega (arith, ap length d, r.1))

-- nine digits make less than 1,000,000,000
pub digit-within : (b : ℕ) → is_digit b ≡ true → (48 ≤ b) × (b ≤ 57)
digit-within b e = let p = both (leb 48 b) (leb b 57) e in (leb-true 48 b p.0, leb-true b 57 p.1)

pub value_room : (v n : ℕ) → n < 9 → v < 10 ^ n → v < 100000000
value_room v n h g = let m : 10 ^ n ≤ 10 ^ 8 = pow-le-pow_right {n = 10} (omega arith) {i = n} {j = 8} (omega (arith, h)) in omega (arith, m)

pub value_grows : (v n d : ℕ) → v < 10 ^ n → d ≤ 9 → v * 10 + d < 10 ^ (n + 1)
value_grows v n d h g = rw (add-one n, pow-suc 10 n) (omega arith)

-- ---- a number that is a whole line
module _ (s : List ℕ) where
  abbrev fits : Bool
  fits = leb 1 (length s) && leb (length s) 9

  -- what a line that is a number has
  is_number : (fits && all_digits s) ≡ true → (1 ≤ length s) × (digits_of 9 s ≡ s)
  is_number e =
      let p = both fits (all_digits s) e in
      let q = both (leb 1 (length s)) (leb (length s) 9) p.0 in
      (leb-true 1 (length s) q.0, digits-all 9 s (leb-true (length s) 9 q.1) p.1)

  not-number : ((1 ≤ length s) × (digits_of 9 s ≡ s) → ⊥) → number_of s ≡ None
  unfolding number_of
  not-number f = go (fits && all_digits s) refl
    where
      go : (t : Bool) → (fits && all_digits s) ≡ t → cond (fits && all_digits s) (Some (value_after 0 s)) None ≡ None
      go true e = absurd (f (is_number e))
      go false e = rw e

  pub number-long : 9 < length s → None ≡ number_of s
  number-long h = sym (not-number (λ p. omega (arith, ap length p.1, digits-few 9 s)))

  pub number-none : length (digits_of 9 s) ≡ 0 → None ≡ number_of s
  number-none h = sym (not-number (λ p. omega (arith, ap length p.1)))

  pub number_short : length (digits_of 9 s) < length s → None ≡ number_of s
  number_short h = sym (not-number (λ p. omega (arith, ap length p.1)))

  pub number_is : (length (digits_of 9 s) ≡ 0 → ⊥) → length s ≤ length (digits_of 9 s) → Some (value_after 0 (digits_of 9 s)) ≡ number_of s
  unfolding number_of
  number_is n h =
      let e : digits_of 9 s ≡ s = sym (digits-taken 9 s) ∙ take_all (length (digits_of 9 s)) s h in
      let a : all_digits s ≡ true = subst (λ (l : List ℕ). all_digits l ≡ true) e (digits_are 9 s) in
      let p : leb 1 (length s) ≡ true = le-leb 1 (length s) (one (length s) (subst (λ (l : List ℕ). length l ≡ 0 → ⊥) e n)) in
      let q : leb (length s) 9 ≡ true = le-leb (length s) 9 (omega (arith, digits-few 9 s)) in
      rw (p, q, a, e)
    where
      one : (k : ℕ) → (k ≡ 0 → ⊥) → 1 ≤ k
      one k f = omega arith
