-- A text read letter by letter, and what a judgement tells of a name.
use Prim.Native.Nat.{ℕ, zero, suc, ◌+◌, ◌-◌, ◌*◌, ◌<◌, ◌≤◌}
use mathlib.Core.Path.{◌≡◌, refl, sym, ap, ◌∙◌}
use mathlib.Core.Bool.{Bool, true, false, cond}
use mathlib.Core.List.{List, [], ◌∷◌}
use native.Mathlib.Omega.{arith}
use lib.ListN.{length, drop, length-drop, drop_of_length-le}
use lib.Seq.{drop-drop}
use Rattle.utf8.specs.Utf8.{letter, Row, table, between, followed, by_rows, letter_of, onto, begins, points_after, points}
use Rattle.utf8.specs.Latin.{all_latin, judged_by, judged_of, points_in, latin_of}
use Rattle.utf8.specs.declared.Letter.{Letter}
use Rattle.utf8.specs.declared.Unfit.TheVariants.{NotLatin}
use Rattle.utf8.proofs.Leads.{both, passed, same}
use Rattle.std.specs.Prelude.{Option, Some, None, Ok, Err}

pub not-bad : {A : Type 0} (c n : ℕ) → None ≡ letter c n → A
not-bad c n e = let z : ◌≡◌ {A = ℕ} 0 1 = cc in absurd (omega arith)

-- a letter has as many bytes as its row says, and they are there
sized : (size v n l h : ℕ) (s : List ℕ) (c m : ℕ) → followed size v n l h s ≡ letter c m → (m ≡ size) × (n ≤ length s)
sized size v zero l h s c m e = (sym (same e).1, omega arith)
sized size v (suc n) l h [] c m e = not-bad c m e
sized size v (suc n) l h (x ∷ s) c m e = go (λ f. sized size (v * 64 + (x - 0x80)) n 0x80 0xbf s c m f) (between l h x) e
  where
    go : (followed size (v * 64 + (x - 0x80)) n 0x80 0xbf s ≡ letter c m → (m ≡ size) × (n ≤ length s))
        → (t : Bool) → cond t (followed size (v * 64 + (x - 0x80)) n 0x80 0xbf s) None ≡ letter c m → (m ≡ size) × (suc n ≤ suc (length s))
    go r true f = let q = r f in (q.0, omega arith)
    go r false f = not-bad c m f

in_rows : (rs : List Row) (x : ℕ) (s : List ℕ) (c m : ℕ) → by_rows rs x s ≡ letter c m → (1 ≤ m) × (m ≤ suc (length s))
in_rows [] x s c m e = not-bad c m e
in_rows (r ∷ rs) x s c m e = go (λ f. in_rows rs x s c m f) (between r.first r.last x) e
  where
    mine : Option Letter
    mine = followed (r.more + 1) (x - r.base) r.more r.low r.high s

    go : (by_rows rs x s ≡ letter c m → (1 ≤ m) × (m ≤ suc (length s))) → (t : Bool) → cond t mine (by_rows rs x s) ≡ letter c m → (1 ≤ m) × (m ≤ suc (length s))
    go k true f = let q = sized (r.more + 1) (x - r.base) r.more r.low r.high s c m f in (omega arith, omega arith)
    go k false f = k f

fits : (s : List ℕ) (c n : ℕ) → letter_of s ≡ letter c n → (1 ≤ n) × (n ≤ length s)
unfolding letter_of
fits [] c n e = not-bad c n e
fits (x ∷ s) c n e = in_rows table x s c n e

-- to go on after k bytes is to begin where they end
after : (k : ℕ) (s : List ℕ) → points_after k s ≡ points (drop k s)
unfolding points_after
after zero s = refl
after (suc k) [] = refl
after (suc k) (x ∷ s) = after k s

pub first-letter : (s : List ℕ) (c n : ℕ) → letter_of s ≡ letter c n → points s ≡ onto c (points (drop n s))
unfolding points_after
first-letter [] c n e = let q = fits [] c n e in absurd (omega arith)
first-letter (x ∷ s) c zero e = let q = fits (x ∷ s) c 0 e in absurd (omega arith)
first-letter (x ∷ s) c (suc k) e =
    ap (λ (r : Option Letter). begins r (λ (j : ℕ). points_after j s)) e ∙ ap (λ (j : ℕ). onto c (points_after j s)) (omega arith) ∙ ap (onto c) (after k s)

pub first-bad : (s : List ℕ) → 0 < length s → letter_of s ≡ None → points s ≡ None
unfolding points_after
first-bad [] h e = absurd (omega arith)
first-bad (x ∷ s) h e = ap (λ (r : Option Letter). begins r (λ (j : ℕ). points_after j s)) e

-- at the end
pub none_left : (s : List ℕ) (i : ℕ) → length s ≤ i → points (drop i s) ≡ Some []
unfolding points_after
none_left s i h = ap points (drop_of_length-le s h)

-- a letter
module _ (s : List ℕ) (i c n : ℕ) (e : letter_of (drop i s) ≡ letter c n) where
  pub one-letter : points (drop i s) ≡ onto c (points (drop (i + n) s))
  one-letter = first-letter (drop i s) c n e ∙ ap (λ (r : List ℕ). onto c (points r)) (drop-drop n i s)

  pub moves-on : 1 ≤ n
  moves-on = (fits (drop i s) c n e).0

  pub stays_within : i + n ≤ length s
  stays_within = let q = fits (drop i s) c n e in omega (arith, length-drop i s)

-- no letter
pub bad-letter : (s : List ℕ) (i : ℕ) → i < length s → letter_of (drop i s) ≡ None → points (drop i s) ≡ None
bad-letter s i h e = first-bad (drop i s) (rw (length-drop i s) (omega arith)) e

-- a name that is fine
fine-by : (o : Option (List ℕ)) (n : ℕ) → judged_by o ≡ Ok n → (o ≡ Some (points_in o)) × (length (points_in o) ≡ n) × (all_latin (points_in o) ≡ true)
fine-by None n e = let z : ◌≡◌ {A = ℕ} 0 1 = cc in absurd (omega arith)
fine-by (Some cs) n e = go (all_latin cs) refl e
  where
    go : (t : Bool) → all_latin cs ≡ t → cond t (Ok (length cs)) (Err NotLatin) ≡ Ok n → (Some cs ≡ Some cs) × (length cs ≡ n) × (all_latin cs ≡ true)
    go true q f = let m : length cs ≡ n = cc in (refl, m, q)
    go false q f = let z : ◌≡◌ {A = ℕ} 0 1 = cc in absurd (omega arith)

module _ (name : List ℕ) (n : ℕ) (e : judged_of name ≡ Ok n) where
  fine : (points name ≡ Some (latin_of name)) × (length (latin_of name) ≡ n) × (all_latin (latin_of name) ≡ true)
  unfolding judged_of latin_of
  fine = fine-by (points name) n e

  pub fine-points : points name ≡ Some (latin_of name)
  fine-points = fine.0

  pub fine-length : length (latin_of name) ≡ n
  fine-length = fine.1

  pub fine-latin : all_latin (latin_of name) ≡ true
  fine-latin = fine.2

pub latin-head : (c : ℕ) (cs : List ℕ) → all_latin (c ∷ cs) ≡ true → (1 ≤ c) × (c ≤ 0xff) × (all_latin cs ≡ true)
latin-head c cs e =
    let p = both (between 1 0xff c) (all_latin cs) e in let q = passed 1 0xff c p.0 in
    (q.0, q.1, p.1)
