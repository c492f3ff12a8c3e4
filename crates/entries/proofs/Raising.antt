-- Hits of a list in columns, raised one by one; they are those that marking the list gives.
use Prim.Native.Nat.{ℕ, zero, suc, ◌+◌, ◌<◌, ◌≤◌}
use mathlib.Core.Path.{◌≡◌, refl, ap}
use mathlib.Core.List.{List, [], ◌∷◌, ◌++◌, map}
use native.Mathlib.Nat.{le_of_suc-le-suc, not-suc-le-zero}
use native.Mathlib.Numerals.{add-one}
use lib.ListN.{length, get_or, set}
use Rattle.entries.specs.Entries.{entry, counted, marked}
use Rattle.entries.specs.Code.{raised_all}
use Rattle.entries.specs.declared.Entry.{Entry}
use Rattle.entries.specs.declared.Met.{Met}

module _ (x : Met) where
  -- the hits after the first i entries
  pub raises : ℕ → List ℕ → List ℕ → List ℕ → List ℕ
  raises zero a k h = h
  raises (suc i) [] k h = h
  raises (suc i) (p ∷ a) [] h = h
  raises (suc i) (p ∷ a) (q ∷ k) [] = []
  raises (suc i) (p ∷ a) (q ∷ k) (n ∷ h) = (counted x (entry p q n)).hits ∷ raises i a k h

  pub raises-none : (a k h : List ℕ) → raises 0 a k h ≡ h
  unfolding raises
  raises-none a k h = refl

  step : (i : ℕ) (a k h : List ℕ) → i < length a → i < length k → i < length h
      → set (raises i a k h) i (counted x (entry (get_or a i 0) (get_or k i 0) (get_or (raises i a k h) i 0))).hits ≡ raises (suc i) a k h
  unfolding raises
  step i [] k h l m n = absurd (not-suc-le-zero l)
  step i (p ∷ a) [] h l m n = absurd (not-suc-le-zero m)
  step i (p ∷ a) (q ∷ k) [] l m n = absurd (not-suc-le-zero n)
  step zero (p ∷ a) (q ∷ k) (y ∷ h) l m n = refl
  step (suc i) (p ∷ a) (q ∷ k) (y ∷ h) l m n =
      ap (λ (t : List ℕ). (counted x (entry p q y)).hits ∷ t) (step i a k h (le_of_suc-le-suc l) (le_of_suc-le-suc m) (le_of_suc-le-suc n))

  pub raises-next : (i : ℕ) (a k h : List ℕ) → i < length a → i < length k → i < length h
      → set (raises i a k h) i (counted x (entry (get_or a i 0) (get_or k i 0) (get_or (raises i a k h) i 0))).hits ≡ raises (i + 1) a k h
  raises-next i a k h l m n = rw (add-one i) (step i a k h l m n)

  pub raises-all : (i : ℕ) (a k h : List ℕ) → length a ≤ i → raises i a k h ≡ raised_all x a k h
  unfolding raises raised_all
  raises-all zero [] k h l = refl
  raises-all (suc i) [] k h l = refl
  raises-all zero (p ∷ a) k h l = absurd (not-suc-le-zero l)
  raises-all (suc i) (p ∷ a) [] h l = refl
  raises-all (suc i) (p ∷ a) (q ∷ k) [] l = refl
  raises-all (suc i) (p ∷ a) (q ∷ k) (y ∷ h) l = ap (λ (t : List ℕ). (counted x (entry p q y)).hits ∷ t) (raises-all i a k h (le_of_suc-le-suc l))

  abbrev column : (Entry → ℕ) → List Entry → List ℕ → List ℕ
  column f l rest = map f l ++ rest

  -- a list that is kept in columns has the hits of the list marked
  pub raised-marked : (l : List Entry) (a k h : List ℕ)
      → raised_all x (column (λ (e : Entry). e.address) l a) (column (λ (e : Entry). e.kind) l k) (column (λ (e : Entry). e.hits) l h)
      ≡ column (λ (e : Entry). e.hits) (marked x l) (raised_all x a k h)
  unfolding raised_all marked
  raised-marked [] a k h = refl
  raised-marked (e ∷ l) a k h = ap (λ (t : List ℕ). (counted x e).hits ∷ t) (raised-marked l a k h)
