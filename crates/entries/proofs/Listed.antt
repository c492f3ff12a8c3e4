-- Lists of entries: what is met, by the place of the first; what a list by value tells of it.
use Prim.Native.Nat.{ℕ, suc, ◌+◌, ◌<◌, ◌≤◌}
use mathlib.Core.Path.{◌≡◌, refl, sym, ap, ◌∙◌}
use mathlib.Core.Bool.{Bool, true, false, cond, ◌&&◌, ◌||◌}
use mathlib.Core.List.{List, [], ◌∷◌, ◌++◌, map}
use native.Mathlib.Omega.{arith}
use borrow.Author.Tests.{lt-ltb, le-ltb, ltb-true, ltb-false}
use lib.Dec.{eqb, ltb}
use lib.ListN.{length, set, take, drop, replicate, length-map}
use Rattle.std.proofs.lemmas.List.{take_at}
use Rattle.std.proofs.lemmas.List.Edits.{sets, sets-eq}
use Rattle.entries.specs.Entries.{entry, met_at, meets, any_of, counted, marked, place_of}
use Rattle.entries.specs.Code.{bare, points, added, added_all, points_of}
use Rattle.entries.specs.declared.Entry.{Entry}
use Rattle.entries.specs.declared.Points.{Points}

ltb-suc : (m n : ℕ) → ltb (suc m) (suc n) ≡ ltb m n
ltb-suc m n = go (ltb m n) refl
  where
    go : (t : Bool) → ltb m n ≡ t → ltb (suc m) (suc n) ≡ ltb m n
    go true e = lt-ltb (suc m) (suc n) (omega (arith, ltb-true m n e)) ∙ sym e
    go false e = le-ltb (suc m) (suc n) (omega (arith, ltb-false m n e)) ∙ sym e

-- some entry is met where the place of the first is one of the list's
pub some-place : (f : Entry → Bool) (l : List Entry) → any_of f l ≡ ltb (place_of f l) (length l)
unfolding any_of place_of
some-place f [] = refl
some-place f (e ∷ l) = go (some-place f l) (f e)
  where
    go : any_of f l ≡ ltb (place_of f l) (length l) → (t : Bool) → (t || any_of f l) ≡ ltb (cond t 0 (suc (place_of f l))) (suc (length l))
    go h true = sym (lt-ltb 0 (suc (length l)) (omega arith))
    go h false = h ∙ sym (ltb-suc (place_of f l) (length l))

-- no byte, nothing met
never : (k a : ℕ) (e : Entry) → meets (met_at k 0 a) e ≡ false
never k a e = go (eqb e.kind k)
  where
    go : (t : Bool) → (t && false) ≡ false
    go true = refl
    go false = refl

pub never_met : (k a : ℕ) (l : List Entry) → any_of (meets (met_at k 0 a)) l ≡ false
unfolding any_of
never_met k a [] = refl
never_met k a (e ∷ l) = rw (never k a e) (never_met k a l)

pub never-marked : (k a : ℕ) (l : List Entry) → marked (met_at k 0 a) l ≡ l
unfolding marked counted
never-marked k a [] = refl
never-marked k a (e ∷ l) = rw (never k a e) (ap (λ (t : List Entry). e ∷ t) (never-marked k a l))

-- ---- hits do not steer: a list is met as its entries are without them
pub bare-place : (x : _) (l : List Entry) → place_of (meets x) (map bare l) ≡ place_of (meets x) l
unfolding place_of
bare-place x [] = refl
bare-place x (e ∷ l) = ap (λ (n : ℕ). cond (meets x e) 0 (suc n)) (bare-place x l)

pub bare-some : (x : _) (l : List Entry) → any_of (meets x) (map bare l) ≡ any_of (meets x) l
unfolding any_of
bare-some x [] = refl
bare-some x (e ∷ l) = ap (λ (t : Bool). meets x e || t) (bare-some x l)

pub bare-kinds : (l : List Entry) → map (λ (e : Entry). e.kind) (map bare l) ≡ map (λ (e : Entry). e.kind) l
bare-kinds [] = refl
bare-kinds (e ∷ l) = ap (λ (t : List ℕ). e.kind ∷ t) (bare-kinds l)

-- ---- the points of a list: its entries put from the n-th place on
added-all : (l : List Entry) (n : ℕ) (a : List Entry) → n + length l ≤ 64 → added_all (points n a) l ≡ points (n + length l) (sets a n (map bare l))
unfolding added_all added
added-all [] n a h = let e : n + 0 ≡ n = omega arith in rw e
added-all (x ∷ l) n a h =
    let e : n + length (x ∷ l) ≡ n + 1 + length l = omega arith in
    let s : suc n ≡ n + 1 = omega arith in
    rw (lt-ltb n 64 (omega (arith, h)), e)
    (added-all l (n + 1) (set a n (bare x)) (omega (arith, h)) ∙ ap (λ (k : ℕ). points (n + 1 + length l) (sets (set a n (bare x)) k (map bare l))) (sym s))

-- of at most 64 entries: how many, and the entries without hits
pub record Points-of (l : List Entry) : Type 0 where
  pub count : (points_of l).count ≡ length l
  pub entries : take (length l) (points_of l).entries ≡ map bare l

abbrev blank : List Entry
blank = replicate 64 (entry 0 0 0)

pub gathered : (l : List Entry) → length l ≤ 64 → Points-of l
gathered l h =
    let e : points_of l ≡ points (0 + length l) (sets blank 0 (map bare l)) = added-all l 0 blank (omega (arith, h)) in
    let n = length-map l bare in
    let s : sets blank 0 (map bare l) ≡ take 0 blank ++ map bare l ++ drop (0 + length (map bare l)) blank = sets-eq (map bare l) blank 0 (omega (arith, h, n)) in
    record {
      count = ap (λ (p : Points). p.count) e ∙ omega arith;
      entries = ap (λ (p : Points). take (length l) p.entries) e ∙ ap (take (length l)) s ∙ take_at (map bare l) (drop (0 + length (map bare l)) blank) (length l) n;
    }

-- of more than 64 entries only that
overfull : (l : List Entry) (p : Points) → p.count ≤ 65 → 64 < p.count + length l → (added_all p l).count ≡ 65
unfolding added_all added
overfull [] p b h = omega (arith, b, h)
overfull (x ∷ l) p b h = go (overfull l) (ltb p.count 64) refl
  where
    go : ((q : Points) → q.count ≤ 65 → 64 < q.count + length l → (added_all q l).count ≡ 65) → (t : Bool) → ltb p.count 64 ≡ t
        → (added_all (added p x) l).count ≡ 65
    go r true e =
        let g = ltb-true p.count 64 e in
        rw e (r (points (p.count + 1) (set p.entries p.count (bare x))) (omega (arith, g)) (omega (arith, h)))
    go r false e = rw e (r (points 65 p.entries) (omega arith) (omega arith))

pub too_long : (l : List Entry) → 64 < length l → (points_of l).count ≡ 65
too_long l h = overfull l (points 0 blank) (omega arith) (omega (arith, h))
