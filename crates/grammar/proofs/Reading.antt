-- `line_of` finds three words in a line exactly where the line is made of them (specs/Grammar.antt).
use mathlib.Core.Path.{◌≡◌, refl, sym, ap, ◌∙◌}
use mathlib.Core.Bool.{Bool, true, false, cond, not}
use mathlib.Core.List.{List, [], ◌∷◌, ◌++◌, append-nil}
use mathlib.Core.Logic.{⊎_elim}
use Prim.Native.Nat.{ℕ}
use native.Mathlib.Omega.{arith}
use borrow.Author.Tests.{eqb-true}
use lib.Dec.{eqb}
use Rattle.grammar.specs.Line.{all, blank, wordy, run, rest, empty, Line, words, no_line, at_end, at_second, at_comma, at_first, at_gap, line_of}
use Rattle.grammar.specs.Grammar.{Word, IsLine}
use Rattle.names.proofs.Keyed.{left, right}
use Rattle.grammar.proofs.Bools.{clash, either}

-- a list whose first byte, if any, fails the test
abbrev stops : (ℕ → Bool) → List ℕ → Bool
stops f [] = true
stops f (b ∷ bs) = not (f b)

run-all : (f : ℕ → Bool) (w t : List ℕ) → all f w ≡ true → stops f t ≡ true → run f (w ++ t) ≡ w
run-all f [] [] a h = refl
run-all f [] (b ∷ t) a h = go (f b) h
  where
    go : (x : Bool) → not x ≡ true → cond x (b ∷ run f t) [] ≡ []
    go true e = clash e
    go false e = refl
run-all f (b ∷ w) t a h = rw (left (f b) (all f w) a, run-all f w t (right (f b) (all f w) a) h)

rest_all : (f : ℕ → Bool) (w t : List ℕ) → all f w ≡ true → stops f t ≡ true → rest f (w ++ t) ≡ t
rest_all f [] [] a h = refl
rest_all f [] (b ∷ t) a h = go (f b) h
  where
    go : (x : Bool) → not x ≡ true → cond x (rest f t) (b ∷ t) ≡ b ∷ t
    go true e = clash e
    go false e = refl
rest_all f (b ∷ w) t a h = rw (left (f b) (all f w) a) (rest_all f w t (right (f b) (all f w) a) h)

-- no byte is both a blank and a word's
blank-wordy : (b : ℕ) → blank b ≡ true → not (wordy b) ≡ true
unfolding blank wordy
blank-wordy b e = ⊎_elim (λ h. rw (eqb-true b 32 h)) (λ h. rw (eqb-true b 9 h)) (either (eqb b 32) (eqb b 9) e)

wordy-blank : (b : ℕ) → wordy b ≡ true → not (blank b) ≡ true
wordy-blank b e = go (blank b) (blank-wordy b)
  where
    go : (x : Bool) → (x ≡ true → not (wordy b) ≡ true) → not x ≡ true
    go true h = clash ((rw e at (h refl)))
    go false h = refl

-- where a word, or blanks and then something else, follow
word-stops : (w t : List ℕ) → Word w → stops blank (w ++ t) ≡ true
word-stops [] t h = clash (sym h.some)
word-stops (b ∷ w) t h = wordy-blank b (left (wordy b) (all wordy w) h.bytes)

blanks-stop : (w t : List ℕ) → all blank w ≡ true → stops wordy t ≡ true → stops wordy (w ++ t) ≡ true
blanks-stop [] t a h = h
blanks-stop (b ∷ w) t a h = blank-wordy b (left (blank b) (all blank w) a)

blanks-stop-end : (w : List ℕ) → all blank w ≡ true → stops wordy w ≡ true
blanks-stop-end [] a = refl
blanks-stop-end (b ∷ w) a = blank-wordy b (left (blank b) (all blank w) a)

gap-stops : (w t : List ℕ) → all blank w ≡ true → empty w ≡ false → stops wordy (w ++ t) ≡ true
gap-stops [] t a e = clash (sym e)
gap-stops (b ∷ w) t a e = blank-wordy b (left (blank b) (all blank w) a)

comma-wordy : (t : List ℕ) → stops wordy (44 ∷ t) ≡ true
unfolding wordy
comma-wordy t = refl

comma-blank : (t : List ℕ) → stops blank (44 ∷ t) ≡ true
unfolding blank
comma-blank t = refl

rest_end : (f : ℕ → Bool) (w : List ℕ) → all f w ≡ true → rest f w ≡ []
rest_end f [] a = refl
rest_end f (b ∷ w) a = rw (left (f b) (all f w) a) (rest_end f w (right (f b) (all f w) a))

pub complete : (s m d r : List ℕ) → IsLine s m d r → line_of s ≡ words m d r
unfolding line_of
complete s m d r l =
    let u4 = r ++ l.b4 in
    let u3 : List ℕ = 44 ∷ (l.b3 ++ u4) in
    let u2 = d ++ (l.b2 ++ u3) in
    let u1 = l.b1 ++ u2 in
    let g1 = gap-stops l.b1 u2 l.blank1 l.gap in
    let g2 = blanks-stop l.b2 u3 l.blank2 (comma-wordy (l.b3 ++ u4)) in
    let g4 = blanks-stop-end l.b4 l.blank4 in
    rw (
      l.whole,
      rest_all blank l.b0 (m ++ u1) l.blank0 (word-stops m u1 l.mnemonic),
      run-all wordy m u1 l.mnemonic.bytes g1,
      rest_all wordy m u1 l.mnemonic.bytes g1,
      l.mnemonic.some,
      run-all blank l.b1 u2 l.blank1 (word-stops d (l.b2 ++ u3) l.first),
      rest_all blank l.b1 u2 l.blank1 (word-stops d (l.b2 ++ u3) l.first),
      l.gap,
      run-all wordy d (l.b2 ++ u3) l.first.bytes g2,
      rest_all wordy d (l.b2 ++ u3) l.first.bytes g2,
      l.first.some,
      rest_all blank l.b2 u3 l.blank2 (comma-blank (l.b3 ++ u4)),
      rest_all blank l.b3 u4 l.blank3 (word-stops r l.b4 l.second),
      run-all wordy r l.b4 l.second.bytes g4,
      rest_all wordy r l.b4 l.second.bytes g4,
      l.second.some,
      rest_end blank l.b4 l.blank4,
    )

-- ---- and only there

joined : (f : ℕ → Bool) (s : List ℕ) → s ≡ run f s ++ rest f s
joined f [] = refl
joined f (b ∷ s) = go (joined f s) (f b)
  where
    go : s ≡ run f s ++ rest f s → (x : Bool) → b ∷ s ≡ cond x (b ∷ run f s) [] ++ cond x (rest f s) (b ∷ s)
    go h true = ap (λ (t : List ℕ). b ∷ t) h
    go h false = refl

run_is : (f : ℕ → Bool) (s : List ℕ) → all f (run f s) ≡ true
run_is f [] = refl
run_is f (b ∷ s) = go (run_is f s) (f b) refl
  where
    go : all f (run f s) ≡ true → (x : Bool) → f b ≡ x → all f (cond x (b ∷ run f s) []) ≡ true
    go h true e = rw e h
    go h false e = refl

module _ (m d r : List ℕ) where
  not_line : {A : Type 0} → no_line ≡ words m d r → A
  not_line e = let z : ◌≡◌ {A = ℕ} 0 1 = cc in absurd (omega arith)

  cond_no : (t : Bool) (x : Line) → cond t no_line x ≡ words m d r → (t ≡ false) × (x ≡ words m d r)
  cond_no true x e = not_line e
  cond_no false x e = (refl, e)

  cond_yes : (t : Bool) (x : Line) → cond t x no_line ≡ words m d r → (t ≡ true) × (x ≡ words m d r)
  cond_yes true x e = (refl, e)
  cond_yes false x e = not_line e

  comma : (m' d' s : List ℕ) → at_comma m' d' s ≡ words m d r → (t : List ℕ) × (s ≡ 44 ∷ t) × (at_second m' d' (rest blank t) ≡ words m d r)
  comma m' d' [] e = not_line e
  comma m' d' (b ∷ t) e =
      let p = cond_yes (eqb b 44) (at_second m' d' (rest blank t)) e in
      (t, ap (λ (x : ℕ). x ∷ t) (eqb-true b 44 p.0), p.1)

empty-is : (s : List ℕ) → empty s ≡ true → s ≡ []
empty-is [] e = refl
empty-is (b ∷ s) e = clash e

part : (f : ℕ → Bool) (s : List ℕ) {w t : List ℕ} → run f s ≡ w → rest f s ≡ t → s ≡ w ++ t
part f s p q = joined f s ∙ cc

pub sound : (s m d r : List ℕ) → line_of s ≡ words m d r → IsLine s m d r
unfolding line_of
sound s m d r e =
    let s1 = rest blank s in
    let s2 = rest wordy s1 in
    let s3 = rest blank s2 in
    let s4 = rest wordy s3 in
    let p1 = cond_no m d r (empty (run wordy s1)) (at_gap (run wordy s1) s2) e in
    let p2 = cond_no m d r (empty (run blank s2)) (at_first (run wordy s1) s3) p1.1 in
    let p3 = cond_no m d r (empty (run wordy s3)) (at_comma (run wordy s1) (run wordy s3) (rest blank s4)) p2.1 in
    let k = comma m d r (run wordy s1) (run wordy s3) (rest blank s4) p3.1 in
    let s7 = rest blank k.0 in
    let s8 = rest wordy s7 in
    let p4 = cond_no m d r (empty (run wordy s7)) (at_end (run wordy s1) (run wordy s3) (run wordy s7) (rest blank s8)) k.2 in
    let p5 = cond_yes m d r (empty (rest blank s8)) (words (run wordy s1) (run wordy s3) (run wordy s7)) p4.1 in
    let q : words (run wordy s1) (run wordy s3) (run wordy s7) ≡ words m d r = p5.1 in
    let em : run wordy s1 ≡ m = cc (q) in
    let ed : run wordy s3 ≡ d = cc (q) in
    let er : run wordy s7 ≡ r = cc (q) in
    let e8 : s8 ≡ run blank s8 = joined blank s8 ∙ (rw (empty-is (rest blank s8) p5.0) (append-nil (run blank s8))) in
    let c6 = part blank k.0 refl (part wordy s7 er e8) in
    let c4 = part blank s4 refl (k.1 ∙ ap (λ (t : List ℕ). 44 ∷ t) c6) in
    let c2 = part blank s2 refl (part wordy s3 ed c4) in
    record {
      b0 = run blank s;
      b1 = run blank s2;
      b2 = run blank s4;
      b3 = run blank k.0;
      b4 = run blank s8;
      blank0 = run_is blank s;
      blank1 = run_is blank s2;
      blank2 = run_is blank s4;
      blank3 = run_is blank k.0;
      blank4 = run_is blank s8;
      gap = p2.0;
      mnemonic = rw (← em) (record { some = p1.0; bytes = run_is wordy s1 });
      first = rw (← ed) (record { some = p3.0; bytes = run_is wordy s3 });
      second = rw (← er) (record { some = p4.0; bytes = run_is wordy s7 });
      whole = part blank s refl (part wordy s1 em c2);
    }
