-- Where a pen's name lies, and which bytes it is: all after the first tab of the first line with its number, in today's manifest where that has one.
use Prim.Native.Nat.{ℕ, zero, suc, ◌+◌, ◌-◌, ◌≤◌}
use mathlib.Core.Path.{◌≡◌, refl, sym, ap, subst, ◌∙◌}
use mathlib.Core.Bool.{Bool, true, false, cond}
use mathlib.Core.List.{List, [], ◌∷◌}
use native.Mathlib.Omega.{arith}
use borrow.Author.Tests.{ltb-true}
use lib.Dec.{ltb}
use lib.ListN.{length, get_or, take, drop}
use lib.Seq.{drop-drop, take-nil, get_or-take, get_or-drop}
use Rattle.manifests.specs.Manifests.{lines, number_of, front, is_number, matches, place_among, place_of, or_else, by_number, held_of, name_of, first_match, after_tab}
use Rattle.std.specs.Prelude.{Option, Some, None}
use Rattle.manifests.specs.declared.Part.{Part}
use Rattle.manifests.specs.declared.Held.{Held}
use Rattle.manifests.specs.declared.Held.TheVariants.{Today, LastGood}
use Rattle.manifests.proofs.Digits.{both}
use Rattle.manifests.proofs.Lined.{LineAt, over-lines}
use Rattle.manifests.proofs.Keys.{tab-there}

-- a part of a manifest, right behind a tab
pub record Lies (s : List ℕ) (p : Part) : Type 0 where
  pub order : p.from ≤ p.to
  pub within : p.to ≤ length s
  pub behind : 1 ≤ p.from
  pub tab : get_or s (p.from - 1) 0 ≡ 9

-- what a place says of the first line with a number: its name lies there; there is no such line
pub data Told (s : List ℕ) : Option Part → Option (List ℕ) → Type 0 where
  there : {p : Part} {l : List ℕ} → Lies s p → take (p.to - p.from) (drop p.from s) ≡ after_tab l → Told s (Some p) (Some l)
  nowhere : Told s None None

-- a part of a line that is a part of a text
take-further : (s : List ℕ) (at n k : ℕ) → take (n - k) (drop (at + k) s) ≡ drop k (take n (drop at s))
take-further s at n k = ap (take (n - k)) (sym (drop-drop k at s)) ∙ sym (drop-take (drop at s) n k)
  where
    drop-take : (r : List ℕ) (n k : ℕ) → drop k (take n r) ≡ take (n - k) (drop k r)
    drop-take r n zero = let e : n - 0 ≡ n = omega arith in rw e
    drop-take [] n (suc k) = rw (take-nil n, take-nil (n - suc k))
    drop-take (x ∷ r) zero (suc k) = let e : 0 - suc k ≡ 0 = omega arith in rw e
    drop-take (x ∷ r) (suc n) (suc k) = let e : suc n - suc k ≡ n - k = omega arith in rw e (drop-take r n k)

module _ (s : List ℕ) (n : ℕ) where
  line-told : (at : ℕ) (l : List ℕ) → LineAt s at l → matches n l ≡ true → Told s (Some (record { from = at + (length (front l) + 1); to = at + length l })) (Some l)
  unfolding matches
  line-told at l w m =
      let h = ltb-true (length (front l)) (length l) (both (ltb (length (front l)) (length l)) (is_number n (number_of (front l))) m).0 in
      let i : at + (length (front l) + 1) - 1 ≡ at + length (front l) = omega arith in
      let k : at + length l - (at + (length (front l) + 1)) ≡ length l - (length (front l) + 1) = omega arith in
      let t : get_or s (at + length (front l)) 0 ≡ get_or l (length (front l)) 0 =
      sym (get_or-drop at s (length (front l)) 0) ∙ sym (get_or-take (length l) (drop at s) (length (front l)) 0 h)
      ∙ ap (λ (r : List ℕ). get_or r (length (front l)) 0) w.bytes
      in
      there {p = record { from = at + (length (front l) + 1); to = at + length l }}
      (record {
        order = omega (arith, h);
        within = w.ends;
        behind = omega arith;
        tab = ap (λ (j : ℕ). get_or s j 0) i ∙ t ∙ tab-there l h;
      })
      (ap (λ (j : ℕ). take j (drop (at + (length (front l) + 1)) s)) k ∙ take-further s at (length l) (length (front l) + 1)
      ∙ ap (drop (length (front l) + 1)) w.bytes)

  abbrev Tells : ℕ → List (List ℕ) → Type 0
  Tells at ls = Told s (place_among n at ls) (first_match n ls)

  none_told : (at : ℕ) → length s ≤ at → Tells at []
  unfolding place_among first_match
  none_told at h = nowhere

  more-told : (at : ℕ) (l : List ℕ) → LineAt s at l → Tells (at + (length l + 1)) (lines (drop (at + (length l + 1)) s))
      → Tells at (l ∷ lines (drop (at + (length l + 1)) s))
  unfolding place_among first_match
  more-told at l w r = go (matches n l) refl
    where
      go : (t : Bool) → matches n l ≡ t
          → Told s
          (cond t (Some (record { from = at + (length (front l) + 1); to = at + length l })) (place_among n (at + (length l + 1)) (lines (drop (at + (length l + 1)) s))))
          (cond t (Some l) (first_match n (lines (drop (at + (length l + 1)) s))))
      go true e = line-told at l w e
      go false e = r

  -- a look-up in a manifest
  pub told : Told s (place_of n s) (first_match n (lines s))
  told = over-lines s Tells none_told more-told 0

-- ---- a pen that is looked up in two manifests
-- it is held by a manifest s, its name the one of the line l
pub record Found (today last s : List ℕ) (holds : Part → Held) (held : Option Held) (l : List ℕ) : Type 0 where
  pub part : Part
  pub is : held ≡ Some (holds part)
  pub lies : Lies s part
  pub name : name_of today last held ≡ after_tab l

module _ (today last : List ℕ) where
  today-found : (p q : Option Part) (x : Option (List ℕ)) (l : List ℕ) → Told today p x → x ≡ Some l → Found today last today Today (or_else p q) l
  unfolding name_of
  today-found _ q _ l (there {p = p} w t) z = record { part = p; is = refl; lies = w; name = t ∙ ap after_tab (cc) }
  today-found _ q _ l nowhere z = let y : ◌≡◌ {A = ℕ} 0 1 = cc in absurd (omega arith)

  last_found : (p q : Option Part) (x y : Option (List ℕ)) (l : List ℕ) → Told today p x → Told last q y → x ≡ None → y ≡ Some l
      → Found today last last LastGood (or_else p q) l
  unfolding name_of
  last_found _ _ _ _ l nowhere (there {p = p} w t) v z = record { part = p; is = refl; lies = w; name = t ∙ ap after_tab (cc) }
  last_found _ _ _ _ l nowhere nowhere v z = let y : ◌≡◌ {A = ℕ} 0 1 = cc in absurd (omega arith)
  last_found _ _ _ _ l (there w t) u v z = let y : ◌≡◌ {A = ℕ} 0 1 = cc in absurd (omega arith)

  none_found : (p q : Option Part) (x y : Option (List ℕ)) → Told today p x → Told last q y → x ≡ None → y ≡ None → or_else p q ≡ None
  none_found _ _ _ _ nowhere nowhere v z = refl
  none_found _ _ _ _ nowhere (there w t) v z = let y : ◌≡◌ {A = ℕ} 0 1 = cc in absurd (omega arith)
  none_found _ _ _ _ (there w t) u v z = let y : ◌≡◌ {A = ℕ} 0 1 = cc in absurd (omega arith)

  module _ (line : List ℕ) (n : ℕ) (is : number_of line ≡ Some n) where
    looked : held_of line today last ≡ or_else (place_of n today) (place_of n last)
    unfolding held_of
    looked = ap (λ (x : Option ℕ). by_number x today last) is

    -- today's manifest is taken where it has the number, whatever the last good one has
    pub found-today : (l : List ℕ) → first_match n (lines today) ≡ Some l → Found today last today Today (held_of line today last) l
    found-today l e =
        subst (λ (h : Option Held). Found today last today Today h l) (sym looked)
        (today-found (place_of n today) (place_of n last) (first_match n (lines today)) l (told today n) e)

    pub found-last : (l : List ℕ) → first_match n (lines today) ≡ None → first_match n (lines last) ≡ Some l
        → Found today last last LastGood (held_of line today last) l
    found-last l d e =
        subst (λ (h : Option Held). Found today last last LastGood h l) (sym looked)
        (last_found (place_of n today) (place_of n last) (first_match n (lines today)) (first_match n (lines last)) l (told today n) (told last n) d e)

    pub found-neither : first_match n (lines today) ≡ None → first_match n (lines last) ≡ None → held_of line today last ≡ None
    found-neither d e =
        looked
        ∙ none_found (place_of n today) (place_of n last) (first_match n (lines today)) (first_match n (lines last)) (told today n) (told last n) d e

  pub found-no-number : (line : List ℕ) → number_of line ≡ None → held_of line today last ≡ None
  unfolding held_of
  found-no-number line e = ap (λ (x : Option ℕ). by_number x today last) e

  -- ---- for callers: where the name lies, from the answer alone
  today-lies : (p q : Option Part) (x : Option (List ℕ)) (part : Part) → Told today p x → or_else p q ≡ Some (Today part) → Lies today part
  today-lies _ q _ part (there {p = p} w t) z = let i : p ≡ part = cc in rw (← i) w
  today-lies _ (Some p) _ part nowhere z = let y : ◌≡◌ {A = ℕ} 0 1 = cc in absurd (omega arith)
  today-lies _ None _ part nowhere z = let y : ◌≡◌ {A = ℕ} 0 1 = cc in absurd (omega arith)

  last-lies : (p q : Option Part) (x y : Option (List ℕ)) (part : Part) → Told today p x → Told last q y → or_else p q ≡ Some (LastGood part) → Lies last part
  last-lies _ _ _ _ part nowhere (there {p = p} w t) z = let i : p ≡ part = cc in rw (← i) w
  last-lies _ _ _ _ part nowhere nowhere z = let y : ◌≡◌ {A = ℕ} 0 1 = cc in absurd (omega arith)
  last-lies _ _ _ _ part (there w t) u z = let y : ◌≡◌ {A = ℕ} 0 1 = cc in absurd (omega arith)

  module _ (line : List ℕ) (part : Part) where
    pub lies-today : held_of line today last ≡ Some (Today part) → Lies today part
    unfolding held_of
    lies-today = go (number_of line)
      where
        go : (x : Option ℕ) → by_number x today last ≡ Some (Today part) → Lies today part
        go (Some n) z = today-lies (place_of n today) (place_of n last) (first_match n (lines today)) part (told today n) z
        go None z = let y : ◌≡◌ {A = ℕ} 0 1 = cc in absurd (omega arith)

    pub lies-last : held_of line today last ≡ Some (LastGood part) → Lies last part
    unfolding held_of
    lies-last = go (number_of line)
      where
        go : (x : Option ℕ) → by_number x today last ≡ Some (LastGood part) → Lies last part
        go (Some n) z =
            last-lies (place_of n today) (place_of n last) (first_match n (lines today)) (first_match n (lines last)) part (told today n) (told last n) z
        go None z = let y : ◌≡◌ {A = ℕ} 0 1 = cc in absurd (omega arith)
