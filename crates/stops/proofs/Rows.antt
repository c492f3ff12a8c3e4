-- The list: the entries that stay, the first that is met, hits that rise.
use Prim.Native.Nat.{ℕ, zero, suc, ◌+◌, ◌<◌, ◌≤◌}
use mathlib.Core.Path.{◌≡◌, refl, ap}
use mathlib.Core.Bool.{Bool, true, false, cond}
use mathlib.Core.List.{List, [], ◌∷◌, ◌++◌}
use native.Mathlib.Nat.{le_of_suc-le-suc, not-suc-le-zero}
use native.Mathlib.Numerals.{add-one}
use lib.ListN.{length, take, drop, get_or}
use Rattle.std.specs.Prelude.{Some, None}
use Rattle.entries.specs.Entries.{counted, marked}
use Rattle.entries.specs.declared.Entry.{Entry}
use Rattle.entries.specs.declared.Met.{Met}
use Rattle.stops.specs.Stops.{gone, kept, first_of}
use Rattle.stops.specs.declared.list.Gone.{Gone}

-- an entry, or none where it is deleted
abbrev pub unless : Gone → Entry → List Entry
unless g e = cond (gone g e) [] (e ∷ [])

stays : (g : Gone) (i : ℕ) (l : List Entry) (d : Entry) → i < length l → kept g (take (suc i) l) ≡ kept g (take i l) ++ unless g (get_or l i d)
unfolding kept
stays g i [] d p = absurd (not-suc-le-zero p)
stays g zero (e ∷ l) d p = refl
stays g (suc i) (e ∷ l) d p = go _ _ _ (gone g e) (stays g i l d (le_of_suc-le-suc p))
  where
    go : (x y z : List Entry) (t : Bool) → x ≡ y ++ z → cond t x (e ∷ x) ≡ cond t y (e ∷ y) ++ z
    go x y z true h = h
    go x y z false h = ap (λ (t : List Entry). e ∷ t) h

pub stays-next : (g : Gone) (i : ℕ) (l : List Entry) (d : Entry) → i < length l
    → kept g (take (i + 1) l) ≡ kept g (take i l) ++ unless g (get_or l i d)
stays-next g i l d p = rw (add-one i) (stays g i l d p)

-- ---- the first entry that is met
first_from : (f : Entry → Bool) (i : ℕ) (l : List Entry) (d : Entry) → i < length l
    → first_of f (drop i l) ≡ cond (f (get_or l i d)) (Some (get_or l i d)) (first_of f (drop (suc i) l))
unfolding first_of
first_from f i [] d p = absurd (not-suc-le-zero p)
first_from f zero (e ∷ l) d p = refl
first_from f (suc i) (e ∷ l) d p = first_from f i l d (le_of_suc-le-suc p)

pub first-here : (f : Entry → Bool) (i : ℕ) (l : List Entry) (d : Entry) → i < length l → f (get_or l i d) ≡ true
    → first_of f (drop i l) ≡ Some (get_or l i d)
first-here f i l d p h = rw (first_from f i l d p, h) refl

pub first-later : (f : Entry → Bool) (i : ℕ) (l : List Entry) (d : Entry) → i < length l → f (get_or l i d) ≡ false
    → first_of f (drop i l) ≡ first_of f (drop (i + 1) l)
first-later f i l d p h = rw (add-one i, first_from f i l d p, h) refl

pub first-none : (f : Entry → Bool) (i : ℕ) (l : List Entry) → length l ≤ i → first_of f (drop i l) ≡ None
unfolding first_of
first-none f i [] p = go i
  where
    go : (i : ℕ) → first_of f (drop i []) ≡ None
    go zero = refl
    go (suc i) = refl
first-none f zero (e ∷ l) p = absurd (not-suc-le-zero p)
first-none f (suc i) (e ∷ l) p = first-none f i l (le_of_suc-le-suc p)

-- ---- hits that rise
pub rise : (x : Met) (n : ℕ) (l : List Entry) → take n (marked x l) ≡ marked x (take n l)
unfolding marked
rise x zero l = refl
rise x (suc n) [] = refl
rise x (suc n) (e ∷ l) = ap (λ (t : List Entry). counted x e ∷ t) (rise x n l)
