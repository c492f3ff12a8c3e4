-- The first entry of a list that is met, as the library's search finds it.
use Prim.Native.Nat.{ℕ, suc, ◌+◌}
use mathlib.Core.Path.{◌≡◌, refl, sym, ap, ◌∙◌}
use mathlib.Core.Bool.{Bool, cond, ◌&&◌, ◌||◌}
use mathlib.Core.List.{List, [], ◌∷◌, map}
use native.Mathlib.Omega.{arith}
use lib.Dec.{eqb, ltb}
use lib.ListN.{length}
use Rattle.std.specs.Prelude.{Option, Some, None}
use Rattle.std.specs.List.{list_all, position_or_len}
use Rattle.std.proofs.lemmas.List.Recursion.{is_position_or_len}
use Rattle.entries.specs.Entries.{place_of, found, all_known}
use Rattle.entries.specs.declared.Entry.{Entry}
use Rattle.entries.proofs.Listed.{some-place}

module _ (f : Entry → Bool) (l : List Entry) where
  place-is : place_of f l ≡ position_or_len f l
  unfolding place_of
  place-is = is_position_or_len (place_of f) f refl (λ x xs. let e : suc (place_of f xs) ≡ 1 + place_of f xs = omega arith in ap (cond (f x) 0) e) l

  pub position-found : (r : Option ℕ) → r ≡ cond (ltb (position_or_len f l) (length l)) (Some (position_or_len f l)) None → r ≡ found f l
  position-found r e =
      e ∙ ap (λ (n : ℕ). cond (ltb n (length l)) (Some n) None) (sym place-is)
      ∙ ap (λ (t : Bool). cond t (Some (place_of f l)) None) (sym (some-place f l))

-- all kinds known, asked of the entries
abbrev known : ℕ → Bool
known k = eqb k 1 || eqb k 2

kinds-known : (l : List Entry) → list_all (λ (e : Entry). known e.kind) l ≡ list_all known (map (λ (e : Entry). e.kind) l)
kinds-known [] = refl
kinds-known (e ∷ l) = ap (λ (t : Bool). known e.kind && t) (kinds-known l)

pub all-kinds : (l : List Entry) (r : Bool) → r ≡ list_all (λ (e : Entry). known e.kind) l → r ≡ all_known (map (λ (e : Entry). e.kind) l)
unfolding all_known
all-kinds l r e = e ∙ kinds-known l
