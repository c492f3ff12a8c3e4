-- The number in front of a line's tab is the one that the code reads there; lines that are passed over and the line that is met.
use Prim.Native.Nat.{ℕ, zero, suc, ◌+◌, ◌-◌, ◌≤◌, ◌<◌}
use mathlib.Core.Path.{◌≡◌, refl, sym, ap, ◌∙◌}
use mathlib.Core.Bool.{Bool, true, false, cond, ◌&&◌}
use mathlib.Core.List.{List, [], ◌∷◌}
use native.Mathlib.Omega.{arith}
use borrow.Author.Tests.{eqb-true, leb-true, ltb-true, ltb-false, lt-ltb, le-leb}
use lib.Dec.{eqb, leb, ltb}
use lib.ListN.{length, get_or, take, drop, length-drop}
use lib.Seq.{get_or-take}
use Rattle.manifests.specs.Manifests.{is_digit, all_digits, value_after, number_of, front, is_number, matches, place_among}
use Rattle.manifests.specs.Code.{digits_of, first_line, line_end, key_of, front_of, place_from}
use Rattle.std.specs.Prelude.{Option, Some, None}
use Rattle.manifests.proofs.Digits.{never, both, digits-few, digits-short, digits_are}
use Rattle.manifests.specs.declared.fronts.Front.{Front}
use Rattle.manifests.proofs.Parts.{lent}
use Rattle.manifests.proofs.Lined.{first_short, first_taken, one_line, no_line, same_end}

-- ---- what stands before the first tab
pub tab-there : (l : List ℕ) → length (front l) < length l → get_or l (length (front l)) 0 ≡ 9
unfolding front
tab-there [] h = absurd (omega arith)
tab-there (x ∷ l) h = go (tab-there l) (eqb x 9) refl h
  where
    go : (length (front l) < length l → get_or l (length (front l)) 0 ≡ 9) → (t : Bool) → eqb x 9 ≡ t → length (cond t [] (x ∷ front l)) < length (x ∷ l)
        → get_or (x ∷ l) (length (cond t [] (x ∷ front l))) 0 ≡ 9
    go r true e h = eqb-true x 9 e
    go r false e h = r (omega arith)

-- a tab is no digit
not-tab : (x : ℕ) → eqb x 9 ≡ true → is_digit x ≡ false
not-tab x e = rw (eqb-true x 9 e)

-- digits up to a tab are what stands before it
tab-after : (k : ℕ) (l : List ℕ) → length (digits_of k l) < length l → get_or l (length (digits_of k l)) 0 ≡ 9 → front l ≡ digits_of k l
unfolding digits_of front
tab-after k [] h e = absurd (omega arith)
tab-after zero (x ∷ l) h e = rw e
tab-after (suc k) (x ∷ l) h e = go (tab-after k l) (is_digit x) refl (eqb x 9) refl h e
  where
    go : (length (digits_of k l) < length l → get_or l (length (digits_of k l)) 0 ≡ 9 → front l ≡ digits_of k l)
        → (t : Bool) → is_digit x ≡ t → (u : Bool) → eqb x 9 ≡ u → length (cond t (x ∷ digits_of k l) []) < length (x ∷ l)
        → get_or (x ∷ l) (length (cond t (x ∷ digits_of k l) [])) 0 ≡ 9 → cond u [] (x ∷ front l) ≡ cond t (x ∷ digits_of k l) []
    go r true p true q h e = never (sym (not-tab x q) ∙ p)
    go r true p false q h e = ap (λ (s : List ℕ). x ∷ s) (r (omega arith) e)
    go r false p true q h e = refl
    go r false p false q h e = never (sym q ∙ rw e)

-- digits before a tab are read up to it
before-tab : (k : ℕ) (l : List ℕ) → length (front l) < length l → length (front l) ≤ k → all_digits (front l) ≡ true → digits_of k l ≡ front l
unfolding digits_of front
before-tab k [] h g e = absurd (omega arith)
before-tab zero (x ∷ l) h g e = go (eqb x 9) g
  where
    go : (u : Bool) → length (cond u [] (x ∷ front l)) ≤ 0 → [] ≡ cond u [] (x ∷ front l)
    go true g = refl
    go false g = absurd (omega arith)
before-tab (suc k) (x ∷ l) h g e = go (before-tab k l) (eqb x 9) refl h g e
  where
    go : (length (front l) < length l → length (front l) ≤ k → all_digits (front l) ≡ true → digits_of k l ≡ front l)
        → (u : Bool) → eqb x 9 ≡ u → length (cond u [] (x ∷ front l)) < length (x ∷ l) → length (cond u [] (x ∷ front l)) ≤ suc k
        → all_digits (cond u [] (x ∷ front l)) ≡ true → cond (is_digit x) (x ∷ digits_of k l) [] ≡ cond u [] (x ∷ front l)
    go r true q h g e = rw (not-tab x q)
    go r false q h g e =
        let p = both (is_digit x) (all_digits (front l)) e in
        rw p.0 (ap (λ (s : List ℕ). x ∷ s) (r (omega arith) (omega arith) p.1))

-- ---- the number in front of a tab
module _ (l : List ℕ) where
  abbrev fits : Bool
  fits = leb 1 (length (front l)) && leb (length (front l)) 9

  abbrev read : ℕ
  read = length (digits_of 9 l)

  -- what a line with a number in front has
  keyed : length (front l) < length l → (fits && all_digits (front l)) ≡ true → (1 ≤ length (front l)) × (digits_of 9 l ≡ front l)
  keyed h e =
      let p = both fits (all_digits (front l)) e in
      let q = both (leb 1 (length (front l))) (leb (length (front l)) 9) p.0 in
      (leb-true 1 (length (front l)) q.0, before-tab 9 l h (leb-true (length (front l)) 9 q.1) p.1)

  not-keyed : ((1 ≤ read) × (read < length l) × (get_or l read 0 ≡ 9) → ⊥) → key_of l ≡ None
  unfolding key_of number_of
  not-keyed f = go (ltb (length (front l)) (length l)) refl (fits && all_digits (front l)) refl
    where
      go : (t : Bool) → ltb (length (front l)) (length l) ≡ t → (u : Bool) → (fits && all_digits (front l)) ≡ u
          → cond t (cond u (Some (value_after 0 (front l))) None) None ≡ None
      go true p true q =
          let h = ltb-true (length (front l)) (length l) p in
          let k = keyed h q in
          let e : read ≡ length (front l) = ap length k.1 in
          absurd (f (omega (arith, k.0), omega arith, ap (λ (n : ℕ). get_or l n 0) e ∙ tab-there l h))
      go true p false q = refl
      go false p u q = refl

  is-keyed : 1 ≤ read → read < length l → get_or l read 0 ≡ 9 → key_of l ≡ Some (value_after 0 (digits_of 9 l))
  unfolding key_of number_of
  is-keyed n h e =
      let q = digits-few 9 l in
      rw (tab-after 9 l h e, lt-ltb read (length l) h, le-leb 1 read n, le-leb read 9 q, digits_are 9 l)

  -- how many bytes stand before the tab
  pub keyed-read : (n : ℕ) → is_number n (key_of l) ≡ true → length (front l) ≡ read
  unfolding key_of number_of
  keyed-read n = go (ltb (length (front l)) (length l)) refl (fits && all_digits (front l)) refl
    where
      go : (t : Bool) → ltb (length (front l)) (length l) ≡ t → (u : Bool) → (fits && all_digits (front l)) ≡ u
          → is_number n (cond t (cond u (Some (value_after 0 (front l))) None) None) ≡ true → length (front l) ≡ read
      go true p true q e = sym (ap length (keyed (ltb-true (length (front l)) (length l) p) q).1)
      go true p false q e = never e
      go false p u q e = never e

  pub key-matches : (n : ℕ) → matches n l ≡ is_number n (key_of l)
  unfolding matches key_of
  key-matches n = go (ltb (length (front l)) (length l))
    where
      go : (t : Bool) → (t && is_number n (number_of (front l))) ≡ is_number n (cond t (number_of (front l)) None)
      go true = refl
      go false = refl

-- ---- the front of a text's first line, read without a look for the line's end
digits-of-first : (k : ℕ) (s : List ℕ) → digits_of k (first_line s) ≡ digits_of k s
unfolding digits_of first_line
digits-of-first zero s = refl
digits-of-first (suc k) [] = refl
digits-of-first (suc k) (x ∷ s) = go (digits-of-first k s) (eqb x 10) refl
  where
    go : digits_of k (first_line s) ≡ digits_of k s → (t : Bool) → eqb x 10 ≡ t
        → digits_of (suc k) (cond t [] (x ∷ first_line s)) ≡ cond (is_digit x) (x ∷ digits_of k s) []
    go r true e = rw (eqb-true x 10 e)
    go r false e = ap (λ (d : List ℕ). cond (is_digit x) (x ∷ d) []) r

first_ended : (s : List ℕ) → length (first_line s) < length s → get_or s (length (first_line s)) 0 ≡ 10
unfolding first_line
first_ended [] h = absurd (omega arith)
first_ended (x ∷ s) h = go (first_ended s) (eqb x 10) refl h
  where
    go : (length (first_line s) < length s → get_or s (length (first_line s)) 0 ≡ 10) → (t : Bool) → eqb x 10 ≡ t
        → length (cond t [] (x ∷ first_line s)) < length (x ∷ s) → get_or (x ∷ s) (length (cond t [] (x ∷ first_line s))) 0 ≡ 10
    go r true e h = eqb-true x 10 e
    go r false e h = r (omega arith)

module _ (s : List ℕ) where
  abbrev n : ℕ
  n = length (digits_of 9 s)

  abbrev l : List ℕ
  l = first_line s

  same : length (digits_of 9 l) ≡ n
  same = ap length (digits-of-first 9 s)

  pub read-within : n ≤ length l
  read-within = omega (arith, same, digits-short 9 l)

  in-first : (k : ℕ) → k < length l → get_or l k 0 ≡ get_or s k 0
  in-first k h = ap (λ (r : List ℕ). get_or r k 0) (sym (first_taken s)) ∙ get_or-take (length l) s k 0 h

  pub front-none : n ≡ 0 → None ≡ key_of l
  front-none e = sym (not-keyed l (λ p. omega (arith, same, p.0)))

  pub front-past : length s ≤ n → None ≡ key_of l
  front-past h = sym (not-keyed l (λ p. omega (arith, same, first_short s, p.1)))

  pub front-other : (get_or s n 0 ≡ 9 → ⊥) → None ≡ key_of l
  front-other f =
      sym (not-keyed l (λ p. f (sym (in-first n (omega (arith, same, p.1))) ∙ ap (λ (k : ℕ). get_or l k 0) (sym same) ∙ p.2)))

  pub front-is : (n ≡ 0 → ⊥) → n < length s → get_or s n 0 ≡ 9 → Some (value_after 0 (digits_of 9 s)) ≡ key_of l
  front-is f h e = go (ltb n (length l)) refl
    where
      go : (t : Bool) → ltb n (length l) ≡ t → Some (value_after 0 (digits_of 9 s)) ≡ key_of l
      go true p =
          let b = ltb-true n (length l) p in
          ap (λ (d : List ℕ). Some (value_after 0 d)) (sym (digits-of-first 9 s))
          ∙ sym (is-keyed l (omega (arith, same, f)) (omega (arith, same)) (ap (λ (k : ℕ). get_or l k 0) same ∙ in-first n b ∙ e))
      go false p =
          let b = ltb-false n (length l) p in
          let q : length l ≡ n = omega (arith, read-within) in
          let r : ◌≡◌ {A = ℕ} 9 10 = sym e ∙ ap (λ (k : ℕ). get_or s k 0) (sym q) ∙ first_ended s (omega (arith, h)) in
          absurd (omega (arith, r))

  pub fronted : {k : Option ℕ} {r : ℕ} → k ≡ key_of l → r ≡ n → record { number = k; read = r } ≡ front_of s
  fronted p q = cc

-- ---- the line at a place, whose front was read
module _ (s : List ℕ) (at : ℕ) (f : Front) (p : f ≡ front_of (take (length s - at) (drop at s))) where
  abbrev line : List ℕ
  line = first_line (drop at s)

  got : f ≡ front_of (drop at s)
  got = p ∙ ap front_of (lent s at)

  pub key-got : f.number ≡ key_of line
  key-got = ap (λ (x : Front). x.number) got

  read-got : f.read ≡ length (digits_of 9 (drop at s))
  read-got = ap (λ (x : Front). x.read) got

  pub got-within : at < length s → at + f.read ≤ length s
  got-within h = omega (arith, read-got, read-within (drop at s), first_short (drop at s), length-drop at s)

  pub got-end : line_end s (at + f.read) ≡ at + length line
  got-end = same_end s at f.read (omega (arith, read-got, read-within (drop at s)))

  module _ (n end : ℕ) (h : at < length s) (q : end ≡ line_end s (at + f.read)) where
    pub look-here : is_number n f.number ≡ true → Some (record { from = at + f.read + 1; to = end }) ≡ place_from n s at
    unfolding place_among
    look-here e =
        let m : is_number n (key_of line) ≡ true = ap (is_number n) (sym key-got) ∙ e in
        let a : at + f.read + 1 ≡ at + (length (front line) + 1) = omega (arith, read-got, keyed-read line n m, ap length (digits-of-first 9 (drop at s))) in
        sym (rw (one_line s at h, key-matches line n, m) (cc (a, q, got-end)))

    pub look-on : is_number n f.number ≡ false → place_from n s (end + 1) ≡ place_from n s at
    unfolding place_among
    look-on e =
        let m : is_number n (key_of line) ≡ false = ap (is_number n) (sym key-got) ∙ e in
        let a : at + (length line + 1) ≡ end + 1 = omega (arith, q, got-end) in
        sym (rw (one_line s at h, key-matches line n, m, a))

pub look-past : (s : List ℕ) (at n : ℕ) → length s ≤ at → None ≡ place_from n s at
unfolding place_among
look-past s at n h = sym (rw (no_line s at h))
