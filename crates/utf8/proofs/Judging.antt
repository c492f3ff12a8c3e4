-- A name judged letter by letter.
use Prim.Native.Nat.{ℕ, suc, ◌+◌, ◌<◌, ◌≤◌}
use mathlib.Core.Path.{◌≡◌, refl, ap, ◌∙◌}
use mathlib.Core.Bool.{Bool, true, false, cond, ◌&&◌}
use mathlib.Core.List.{List, []}
use native.Mathlib.Omega.{arith}
use lib.Dec.{leb}
use lib.ListN.{length, drop}
use Rattle.utf8.specs.Utf8.{letter, letter_of, onto, points}
use Rattle.utf8.specs.Latin.{all_latin, judged_by, judged_of}
use Rattle.utf8.specs.declared.Unfit.{Unfit}
use Rattle.utf8.specs.declared.Unfit.TheVariants.{NotUtf8, NotLatin}
use Rattle.utf8.proofs.Reading.{none_left, one-letter, bad-letter}
use Rattle.std.specs.Prelude.{Option, Some, None, Result, Ok, Err}

-- the judgement where n letters were read before, and t says whether each of them has a single byte
abbrev pub judging : Bool → ℕ → Option (List ℕ) → Result ℕ Unfit
judging t n None = (Err NotUtf8)
judging t n (Some cs) = cond (t && all_latin cs) (Ok (n + length cs)) (Err NotLatin)

pub at_first : (name : List ℕ) → judging true 0 (points name) ≡ judged_of name
unfolding judged_of
at_first name = go (points name)
  where
    go : (o : Option (List ℕ)) → judging true 0 o ≡ judged_by o
    go None = refl
    go (Some cs) = ap (λ (n : ℕ). cond (all_latin cs) (Ok n) (Err NotLatin)) (omega arith)

regrouped : (t p q r : Bool) → (t && ((p && q) && r)) ≡ (((t && p) && q) && r)
regrouped true p q r = refl
regrouped false p q r = refl

one_more : (t : Bool) (n c : ℕ) (o : Option (List ℕ)) → judging t n (onto c o) ≡ judging ((t && leb 1 c) && leb c 0xff) (n + 1) o
one_more t n c None = refl
one_more t n c (Some cs) =
    ap (λ (u : Bool). cond u (Ok (n + suc (length cs))) (Err NotLatin)) (regrouped t (leb 1 c) (leb c 0xff) (all_latin cs))
    ∙ ap (λ (m : ℕ). cond (((t && leb 1 c) && leb c 0xff) && all_latin cs) (Ok m) (Err NotLatin)) (omega arith)

module _ (s : List ℕ) (i : ℕ) (t : Bool) (n : ℕ) where
  pub at-letter : (c m : ℕ) → letter_of (drop i s) ≡ letter c m
      → judging t n (points (drop i s)) ≡ judging ((t && leb 1 c) && leb c 0xff) (n + 1) (points (drop (i + m) s))
  at-letter c m e = ap (judging t n) (one-letter s i c m e) ∙ one_more t n c (points (drop (i + m) s))

  pub at-bad : i < length s → letter_of (drop i s) ≡ None → judging t n (points (drop i s)) ≡ (Err NotUtf8)
  at-bad h e = ap (judging t n) (bad-letter s i h e)

  pub at_last : length s ≤ i → judging t n (points (drop i s)) ≡ cond t (Ok n) (Err NotLatin)
  at_last h = ap (judging t n) (none_left s i h) ∙ go t
    where
      go : (u : Bool) → judging u n (Some []) ≡ cond u (Ok n) (Err NotLatin)
      go true = ap Ok (omega arith)
      go false = refl
