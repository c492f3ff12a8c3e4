-- Scanning a line from a place: runs of bytes, and the stages that are left.
use mathlib.Core.Path.{◌≡◌, refl, sym, ap, ◌∙◌}
use mathlib.Core.Bool.{Bool, true, false, cond, not}
use mathlib.Core.List.{List, [], ◌∷◌}
use mathlib.Core.Logic.{⊎_elim}
use Prim.Native.Nat.{ℕ, zero, suc, ◌+◌, ◌-◌, ◌<◌, ◌≤◌}
use native.Mathlib.Omega.{arith}
use borrow.Author.Tests.{ne_eqb, eqb-true, lt-ltb}
use lib.ListN.{length, get_or, take, drop, drop_of_length-le, length-drop}
use lib.Seq.{drop-cons, drop-drop}
use Rattle.std.specs.Prelude.{Option, Some, None, unwrap_or, position, nat_eq, ◌&&◌}
use Rattle.std.specs.List.{position_or_len, starts_with}
use Rattle.std.proofs.Common.{ltb}
use Rattle.std.proofs.lemmas.List.{take_all}
use Rattle.std.proofs.lemmas.Bool.{cases_lt}
use Rattle.grammar.specs.Line.{run, rest, empty, blank, wordy, Line, words, no_line, at_mnemonic, at_first, at_comma, at_second, line_of}
use Rattle.grammar.specs.Code.{part}
use Rattle.names.proofs.Keyed.{left}
use Rattle.grammar.proofs.Bools.{clash}
use Rattle.grammar.specs.declared.line.Part.{Part}

-- a run is as long as the first byte that fails is far
run_len : (f : ℕ → Bool) (s : List ℕ) → position_or_len (λ b. not (f b)) s ≡ length (run f s)
run_len f [] = refl
run_len f (b ∷ s) = go (run_len f s) (f b)
  where
    go : position_or_len (λ b. not (f b)) s ≡ length (run f s) → (x : Bool) → cond (not (not x)) (1 + position_or_len (λ b. not (f b)) s) 0 ≡ length (cond x (b ∷ run f s) [])
    go h true = ap (λ (n : ℕ). 1 + n) h ∙ omega arith
    go h false = refl

pub run_within : (f : ℕ → Bool) (s : List ℕ) → length (run f s) ≤ length s
run_within f [] = omega arith
run_within f (b ∷ s) = go (run_within f s) (f b)
  where
    go : length (run f s) ≤ length s → (x : Bool) → length (cond x (b ∷ run f s) []) ≤ length (b ∷ s)
    go h true = omega arith
    go h false = omega arith

all_or : (n : ℕ) (b : Bool) → unwrap_or (cond b (Some n) None) n ≡ n
all_or n true = refl
all_or n false = refl

found_or : (n m : ℕ) → n ≤ m → unwrap_or (cond (ltb n m) (Some n) None) m ≡ n
found_or n m h = ⊎_elim (λ (x : n < m). rw (lt-ltb n m x)) (λ (x : m ≤ n). let e : m ≡ n = omega arith in rw e (all_or n (ltb n n))) (cases_lt n m)

pub counted : (f : ℕ → Bool) (s : List ℕ) (r : Option ℕ) → r ≡ position (λ b. not (f b)) s → unwrap_or r (length s) ≡ length (run f s)
counted f s r e = rw (e, run_len f s) (found_or (length (run f s)) (length s) (run_within f s))

-- what stands from a place on, as a slice has it
pub tail : (l : List ℕ) (i : ℕ) → take (length l - i) (drop i l) ≡ drop i l
tail l i = take_all (length l - i) (drop i l) (omega (arith, length-drop i l))

pub run_inside : (f : ℕ → Bool) (l : List ℕ) (i : ℕ) → i ≤ length l → i + length (run f (drop i l)) ≤ length l
run_inside f l i h = omega (arith, run_within f (drop i l), length-drop i l)

module _ (f : ℕ → Bool) (l : List ℕ) (i : ℕ) where
  pub run_none : {b : ℕ} → i < length l → b ≡ get_or l i b → f b ≡ false → run f (drop i l) ≡ []
  run_none {b} h q e = rw (drop-cons l i b h, ← q, e)

  pub run_end : length l ≤ i → run f (drop i l) ≡ []
  run_end h = rw (drop_of_length-le l h)

-- ---- from places to parts

take-run : (f : ℕ → Bool) (s : List ℕ) → take (length (run f s)) s ≡ run f s
take-run f [] = refl
take-run f (b ∷ s) = go (take-run f s) (f b)
  where
    go : take (length (run f s)) s ≡ run f s → (x : Bool) → take (length (cond x (b ∷ run f s) [])) (b ∷ s) ≡ cond x (b ∷ run f s) []
    go h true = ap (λ (t : List ℕ). b ∷ t) h
    go h false = refl

drop-run : (f : ℕ → Bool) (s : List ℕ) → drop (length (run f s)) s ≡ rest f s
drop-run f [] = refl
drop-run f (b ∷ s) = go (drop-run f s) (f b)
  where
    go : drop (length (run f s)) s ≡ rest f s → (x : Bool) → drop (length (cond x (b ∷ run f s) [])) (b ∷ s) ≡ cond x (rest f s) (b ∷ s)
    go h true = h
    go h false = refl

module _ (f : ℕ → Bool) (l : List ℕ) (i j : ℕ) (e : j ≡ i + length (run f (drop i l))) where
  part-run : take (j - i) (drop i l) ≡ run f (drop i l)
  part-run =
      let n : j - i ≡ length (run f (drop i l)) = omega arith in
      rw n (take-run f (drop i l))

  pub drop_past : drop j l ≡ rest f (drop i l)
  drop_past = rw (e, ← drop-drop (length (run f (drop i l))) i l) (drop-run f (drop i l))

none_of : (w : List ℕ) → length w ≡ 0 → w ≡ []
none_of [] e = refl
none_of (b ∷ w) e = absurd (omega arith)

some_of : (w : List ℕ) → (length w ≡ 0 → ⊥) → empty w ≡ false
some_of [] h = absurd (h refl)
some_of (b ∷ w) h = refl

-- ---- the line, from the word of a number on

abbrev pub stage : ℕ → List ℕ → List ℕ → List ℕ → Line
stage zero m d s = at_mnemonic s
stage (suc zero) m d s = at_first m s
stage (suc (suc k)) m d s = at_second m d s

cond_same : (b : Bool) (x : Line) → cond b x x ≡ x
cond_same true x = refl
cond_same false x = refl

pub stage-end : (k : ℕ) (m d s : List ℕ) → k < 2 → rest wordy s ≡ [] → stage k m d s ≡ no_line
stage-end zero m d s h e = rw e (cond_same (empty (run wordy s)) no_line)
stage-end (suc zero) m d s h e = rw e (cond_same (empty (run wordy s)) no_line)
stage-end (suc (suc k)) m d s h e = absurd (omega arith)

pub line_at : (l : List ℕ) (at : ℕ) → at ≡ 0 + length (run blank (drop 0 l)) → at_mnemonic (drop at l) ≡ line_of l
unfolding line_of
line_at l at e = ap at_mnemonic (drop_past blank l 0 at e)

-- ---- the comma

same_byte : (b : ℕ) → (nat_eq 44 b && true) ≡ true → b ≡ 44
same_byte b e = sym (eqb-true 44 b (left (nat_eq 44 b) true e))

pub comma_here : (s : List ℕ) → starts_with nat_eq s (44 ∷ []) ≡ true → s ≡ 44 ∷ drop 1 s
comma_here [] e = clash e
comma_here (b ∷ t) e = ap (λ (x : ℕ). x ∷ t) (same_byte b e)

no_comma : (m d s : List ℕ) → starts_with nat_eq s (44 ∷ []) ≡ false → at_comma m d s ≡ no_line
no_comma m d [] e = refl
no_comma m d (b ∷ t) e = rw (ne_eqb b 44 (λ (h : b ≡ 44). clash (sym (rw h at e))))

-- ---- a word that has ended, and the blanks after it: what each stage makes of them

pub record Ended (l : List ℕ) (p : Part) (next : ℕ) : Type 0 where
  pub some : p.from < p.to
  pub word : p.to ≡ p.from + length (run wordy (drop p.from l))
  pub blanks : next ≡ p.to + length (run blank (drop p.to l))

module _ (l : List ℕ) (p : Part) (next : ℕ) (e : Ended l p next) where
  some : empty (run wordy (drop p.from l)) ≡ false
  some = some_of (run wordy (drop p.from l)) (λ z. omega (arith, e.some, e.word, z))

  past : drop p.to l ≡ rest wordy (drop p.from l)
  past = drop_past wordy l p.from p.to e.word

  gone : drop next l ≡ rest blank (drop p.to l)
  gone = drop_past blank l p.to next e.blanks

  name : part l p ≡ run wordy (drop p.from l)
  name = part-run wordy l p.from p.to e.word

  pub mnemonic-ends : next ≡ p.to → at_mnemonic (drop p.from l) ≡ no_line
  mnemonic-ends h = rw (some, ← past, none_of (run blank (drop p.to l)) (omega (arith, e.blanks)))

  pub mnemonic-gap : (next ≡ p.to → ⊥) → at_mnemonic (drop p.from l) ≡ at_first (part l p) (drop next l)
  mnemonic-gap h = rw (some, ← past, some_of (run blank (drop p.to l)) (λ z. h (omega (arith, e.blanks, z))), gone, name)

  pub first-other : (m : List ℕ) → starts_with nat_eq (drop next l) (44 ∷ []) ≡ false → at_first m (drop p.from l) ≡ no_line
  first-other m n = rw (some, ← past, ← gone) (no_comma m (run wordy (drop p.from l)) (drop next l) n)

  pub first-comma : (m : List ℕ) (t : ℕ) → starts_with nat_eq (drop next l) (44 ∷ []) ≡ true → t ≡ next + 1 + length (run blank (drop (next + 1) l))
      → at_first m (drop p.from l) ≡ at_second m (part l p) (drop t l)
  first-comma m t k b =
      let c = comma_here (drop next l) k in
      let d : drop (next + 1) l ≡ drop 1 (drop next l) = sym (drop-drop 1 next l) in
      rw (some, ← past, ← gone, c, ← d, drop_past blank l (next + 1) t b, name)

  pub second_more : (m d : List ℕ) → next < length l → at_second m d (drop p.from l) ≡ no_line
  second_more m d h = rw (some, ← past, ← gone, drop-cons l next 0 h)

  pub second-done : (m d : List ℕ) → length l ≤ next → at_second m d (drop p.from l) ≡ words m d (part l p)
  second-done m d h = rw (some, ← past, ← gone, drop_of_length-le l h, name)
