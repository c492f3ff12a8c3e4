-- A text line by line: what `line_end` says of the lines from a place on.
use Prim.Native.Nat.{ℕ, zero, suc, ◌+◌, ◌-◌, ◌≤◌, ◌<◌}
use mathlib.Core.Path.{◌≡◌, refl, sym, ap, subst, ◌∙◌}
use mathlib.Core.Bool.{Bool, true, false, cond}
use mathlib.Core.List.{List, [], ◌∷◌}
use native.Mathlib.Omega.{arith}
use borrow.Author.Tests.{ltb-true, ltb-false}
use lib.Dec.{eqb, ltb}
use lib.ListN.{length, get_or, take, drop, length-drop, drop_of_length-le}
use lib.Seq.{drop-cons, drop-drop}
use Rattle.std.specs.Prelude.{Option, Some, None, unwrap_or}
use Rattle.std.specs.List.{position_or_len}
use Rattle.std.proofs.lemmas.List.Recursion.{is_position_or_len}
use Rattle.manifests.proofs.Parts.{lent}
use Rattle.manifests.specs.Manifests.{lines, joined}
use Rattle.manifests.specs.Code.{first_line, line_end}

-- ---- the first line of a text
pub first_short : (s : List ℕ) → length (first_line s) ≤ length s
unfolding first_line
first_short [] = omega arith
first_short (x ∷ s) = go (first_short s) (eqb x 10)
  where
    go : length (first_line s) ≤ length s → (t : Bool) → length (cond t [] (x ∷ first_line s)) ≤ length (x ∷ s)
    go r true = omega arith
    go r false = omega arith

pub first_taken : (s : List ℕ) → take (length (first_line s)) s ≡ first_line s
unfolding first_line
first_taken [] = refl
first_taken (x ∷ s) = go (first_taken s) (eqb x 10)
  where
    go : take (length (first_line s)) s ≡ first_line s → (t : Bool) → take (length (cond t [] (x ∷ first_line s))) (x ∷ s) ≡ cond t [] (x ∷ first_line s)
    go r true = refl
    go r false = ap (λ (l : List ℕ). x ∷ l) r

-- what is left of the first line further on in it
pub first-further : (k : ℕ) (s : List ℕ) → k ≤ length (first_line s) → k + length (first_line (drop k s)) ≡ length (first_line s)
unfolding first_line
first-further zero s h = omega arith
first-further (suc k) [] h = absurd (omega arith)
first-further (suc k) (x ∷ s) h = go (first-further k s) (eqb x 10) h
  where
    go : (k ≤ length (first_line s) → k + length (first_line (drop k s)) ≡ length (first_line s))
        → (t : Bool) → suc k ≤ length (cond t [] (x ∷ first_line s)) → suc k + length (first_line (drop k s)) ≡ length (cond t [] (x ∷ first_line s))
    go r true h = absurd (omega arith)
    go r false h = omega (arith, r (omega arith))

abbrev Begins : ℕ → List ℕ → Type 0
Begins x s = lines (x ∷ s) ≡ first_line (x ∷ s) ∷ lines (drop (length (first_line (x ∷ s)) + 1) (x ∷ s))

begins : (x : ℕ) (s : List ℕ) → Begins x s
unfolding lines first_line
begins x [] = go (eqb x 10)
  where
    go : (t : Bool) → cond t ([] ∷ []) ((x ∷ []) ∷ []) ≡ cond t [] (x ∷ []) ∷ lines (drop (length (cond t [] (x ∷ [])) + 1) (x ∷ []))
    go true = refl
    go false = refl
begins x (y ∷ s) = go (begins y s) (eqb x 10)
  where
    go : Begins y s → (t : Bool) → cond t ([] ∷ lines (y ∷ s)) (joined x (lines (y ∷ s)))
        ≡ cond t [] (x ∷ first_line (y ∷ s)) ∷ lines (drop (length (cond t [] (x ∷ first_line (y ∷ s))) + 1) (x ∷ (y ∷ s)))
    go r true = refl
    go r false =
        let e : suc (length (first_line (y ∷ s))) + 1 ≡ suc (length (first_line (y ∷ s)) + 1) = omega arith in
        ap (joined x) r ∙ ap (λ (k : ℕ). (x ∷ first_line (y ∷ s)) ∷ lines (drop k (x ∷ (y ∷ s)))) (sym e)

-- ---- the lines from a place on
pub no_line : (s : List ℕ) (i : ℕ) → length s ≤ i → lines (drop i s) ≡ []
unfolding lines
no_line s i h = ap lines (drop_of_length-le s h)

module _ (s : List ℕ) (i : ℕ) (h : i < length s) where
  abbrev line : List ℕ
  line = first_line (drop i s)

  pub one_line : lines (drop i s) ≡ line ∷ lines (drop (i + (length line + 1)) s)
  one_line =
      subst (λ (r : List ℕ). lines r ≡ first_line r ∷ lines (drop (length (first_line r) + 1) r)) (sym (drop-cons s i 0 h)) (begins (get_or s i 0) (drop (suc i) s))
      ∙ ap (λ (r : List ℕ). line ∷ lines r) (drop-drop (length line + 1) i s)

  pub line-within : i + length line ≤ length s
  line-within = omega (arith, first_short (drop i s), length-drop i s)

-- the line that begins at i ends at e, and the next one begins after its LF
pub next-line : (s : List ℕ) (i e : ℕ) → i < length s → e ≡ line_end s i → lines (drop i s) ≡ take (e - i) (drop i s) ∷ lines (drop (e + 1) s)
unfolding line_end
next-line s i e h p =
    let l : List ℕ = first_line (drop i s) in
    let a : length l ≡ e - i = omega (arith, p) in
    let b : i + (length l + 1) ≡ e + 1 = omega (arith, p) in
    one_line s i h ∙ rw (b, ← first_taken (drop i s), a)

-- ---- `line_end`, by the first LF
abbrev pub is_lf : ℕ → Bool
is_lf b = eqb b 10

first-position : (s : List ℕ) → length (first_line s) ≡ position_or_len is_lf s
unfolding first_line
first-position = is_position_or_len (λ (s : List ℕ). length (first_line s)) is_lf refl more
  where
    more : (x : ℕ) (s : List ℕ) → length (first_line (x ∷ s)) ≡ cond (is_lf x) 0 (1 + length (first_line s))
    more x s = go (is_lf x)
      where
        go : (t : Bool) → length (cond t [] (x ∷ first_line s)) ≡ cond t 0 (1 + length (first_line s))
        go true = refl
        go false = omega arith

pub end-past : (s : List ℕ) (i : ℕ) → length s ≤ i → line_end s i ≡ i
unfolding line_end first_line
end-past s i h = rw (drop_of_length-le s h) (omega arith)

-- what the code finds in what it lends from a place on
module _ (s : List ℕ) (at : ℕ) (found : Option ℕ) (n : ℕ) where
  abbrev rest : List ℕ
  rest = take (length s - at) (drop at s)

  abbrev p : ℕ
  p = position_or_len is_lf rest

  pub end-at : found ≡ cond (ltb p (length rest)) (Some p) None → n ≡ unwrap_or found (length rest) → at + n ≡ line_end s at
  unfolding line_end
  end-at e f = ap (λ (k : ℕ). at + k) (f ∙ ap (λ (o : Option ℕ). unwrap_or o (length rest)) e ∙ go (ltb p (length rest)) refl) ∙ ap (λ (r : List ℕ). at + length (first_line r)) (lent s at)
    where
      go : (t : Bool) → ltb p (length rest) ≡ t → unwrap_or (cond t (Some p) None) (length rest) ≡ length (first_line rest)
      go true q = sym (first-position rest)
      go false q = omega (arith, ltb-false p (length rest) q, first-position rest, first_short rest)

-- a line has one end, from wherever in it
pub same_end : (s : List ℕ) (i k : ℕ) → k ≤ length (first_line (drop i s)) → line_end s (i + k) ≡ i + length (first_line (drop i s))
unfolding line_end
same_end s i k h =
    ap (λ (r : List ℕ). i + k + length (first_line r)) (sym (drop-drop k i s)) ∙ omega (arith, first-further k (drop i s) h)

-- ---- what holds of the lines from each place on, shown from the last line to the first
-- the line of a text that begins at a place
pub record LineAt (s : List ℕ) (at : ℕ) (l : List ℕ) : Type 0 where
  pub begins : at < length s
  pub ends : at + length l ≤ length s
  pub bytes : take (length l) (drop at s) ≡ l
  pub first : lines (drop at s) ≡ l ∷ lines (drop (at + (length l + 1)) s)

module _ (s : List ℕ) (P : ℕ → List (List ℕ) → Type 0) (none : (at : ℕ) → length s ≤ at → P at [])
    (more : (at : ℕ) (l : List ℕ) → LineAt s at l
    → P (at + (length l + 1)) (lines (drop (at + (length l + 1)) s)) → P at (l ∷ lines (drop (at + (length l + 1)) s))) where
  by_lines : (left at : ℕ) → length s ≤ left + at → P at (lines (drop at s))
  by_lines zero at h = subst (P at) (sym (no_line s at (omega (arith, h)))) (none at (omega (arith, h)))
  by_lines (suc left) at h = go (by_lines left) (ltb at (length s)) refl
    where
      go : ((k : ℕ) → length s ≤ left + k → P k (lines (drop k s))) → (t : Bool) → ltb at (length s) ≡ t → P at (lines (drop at s))
      go r true e =
          let b = ltb-true at (length s) e in
          let l : List ℕ = first_line (drop at s) in
          let f = one_line s at b in
          subst (P at) (sym f)
          (more at l (record { begins = b; ends = line-within s at b; bytes = first_taken (drop at s); first = f }) (r (at + (length l + 1)) (omega (arith, h))))
      go r false e =
          let b = ltb-false at (length s) e in
          subst (P at) (sym (no_line s at b)) (none at b)

  pub over-lines : (at : ℕ) → P at (lines (drop at s))
  over-lines at = by_lines (length s) at (omega arith)
