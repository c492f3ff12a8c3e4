-- Lead bytes, as the code tells them apart, and what follows them.
use Prim.Native.Nat.{ℕ, zero, suc, ◌+◌, ◌-◌, ◌*◌, ◌<◌, ◌≤◌}
use mathlib.Core.Path.{◌≡◌, refl, sym, ap, ◌∙◌}
use mathlib.Core.Bool.{Bool, true, false, cond, ◌&&◌, and-false}
use mathlib.Core.List.{List, [], ◌∷◌}
use native.Mathlib.Omega.{arith}
use native.Mathlib.Numerals.{add-one}
use borrow.Author.Tests.{eqb-true, eqb-false, leb-true, lt-leb}
use lib.Dec.{eqb, leb}
use lib.ListN.{length, get_or, drop, take, length-take, drop_of_length-le}
use lib.Seq.{drop-cons}
use Rattle.utf8.specs.Utf8.{letter, Row, table, between, followed, by_rows, letter_of}
use Rattle.utf8.specs.Code.{low_after, high_after}
use Rattle.utf8.specs.declared.Letter.{Letter}
use Rattle.std.specs.Prelude.{Option, Some, None}

-- f at each of n numbers, from i on
abbrev each : {A : Type 0} → (ℕ → A) → ℕ → ℕ → List A
each f i zero = []
each f i (suc n) = f i ∷ each f (suc i) n

-- two functions that one computed test shows alike over a stretch of numbers
alike : {A : Type 0} (f g : ℕ → A) (i n : ℕ) → each f i n ≡ each g i n → (k : ℕ) → i ≤ k → k < i + n → f k ≡ g k
alike f g i zero e k h l = absurd (omega arith)
alike f g i (suc n) e k h l = go (alike f g (suc i) n) (eqb i k) refl
  where
    go : (each f (suc i) n ≡ each g (suc i) n → (k : ℕ) → suc i ≤ k → k < suc i + n → f k ≡ g k) → (t : Bool) → eqb i k ≡ t → f k ≡ g k
    go r true q = let m = eqb-true i k q in let x : f i ≡ g i = cc in rw (← m) x
    go r false q = let m = eqb-false i k q in r (cc) k (omega arith) (omega arith)

-- letters that are the same
pub same : {c m d n : ℕ} → letter c m ≡ letter d n → (c ≡ d) × (m ≡ n)
same e = (ap point_of e, ap length_of e)
  where
    point_of : Option Letter → ℕ
    point_of None = 0
    point_of (Some l) = l.point

    length_of : Option Letter → ℕ
    length_of None = 0
    length_of (Some l) = l.length

-- what a lead byte and the bytes after it give
abbrev pub row_at : ℕ → List ℕ → Option Letter
row_at x s = by_rows table x s

pub one : (x : ℕ) → x < 0x80 → row_at x ≡ (λ s. letter x 1)
one x h = alike row_at (λ x s. letter x 1) 0 0x80 refl x (omega arith) (omega arith)

pub low : (x : ℕ) → 0x80 ≤ x → x < 0xc2 → row_at x ≡ (λ s. None)
low x h l = alike row_at (λ x s. None) 0x80 66 refl x h (omega arith)

pub two : (x : ℕ) → 0xc2 ≤ x → x < 0xe0 → row_at x ≡ followed 2 (x - 0xc0) 1 0x80 0xbf
two x h l = alike row_at (λ x. followed 2 (x - 0xc0) 1 0x80 0xbf) 0xc2 30 refl x h (omega arith)

pub three : (x : ℕ) → 0xe0 ≤ x → x < 0xf0 → row_at x ≡ followed 3 (x - 0xe0) 2 (low_after x) (high_after x)
unfolding low_after high_after
three x h l = alike row_at (λ x. followed 3 (x - 0xe0) 2 (low_after x) (high_after x)) 0xe0 16 refl x h (omega arith)

pub four : (x : ℕ) → 0xf0 ≤ x → x < 0xf5 → row_at x ≡ followed 4 (x - 0xf0) 3 (low_after x) (high_after x)
unfolding low_after high_after
four x h l = alike row_at (λ x. followed 4 (x - 0xf0) 3 (low_after x) (high_after x)) 0xf0 5 refl x h (omega arith)

clash : {A : Type 0} → false ≡ true → A
clash e = let z : ◌≡◌ {A = ℕ} 0 1 = cc in absurd (omega arith)

pub both : (p q : Bool) → (p && q) ≡ true → (p ≡ true) × (q ≡ true)
both true q e = (refl, e)
both false q e = clash e

pub passed : (l h x : ℕ) → between l h x ≡ true → (l ≤ x) × (x ≤ h)
passed l h x e =
    let p = both (leb l x) (leb x h) e in
    (leb-true l x p.0, leb-true x h p.1)

-- past the last row
ended : List Row → Bool
ended [] = true
ended (r ∷ rs) = leb r.last 0xf4 && ended rs

past-rows : (rs : List Row) (x : ℕ) (s : List ℕ) → ended rs ≡ true → 0xf4 < x → by_rows rs x s ≡ None
unfolding ended
past-rows [] x s e h = refl
past-rows (r ∷ rs) x s e h =
    let p = both (leb r.last 0xf4) (ended rs) e in let l = leb-true r.last 0xf4 p.0 in
    rw (lt-leb x r.last (omega arith), and-false (leb r.first x)) (past-rows rs x s p.1 h)

pub high : (x : ℕ) → 0xf5 ≤ x → (s : List ℕ) → row_at x s ≡ None
unfolding ended
high x h s = past-rows table x s refl h

either-bad : (t : Bool) → cond {A = Option Letter} t None None ≡ None
either-bad true = refl
either-bad false = refl

-- too few bytes follow
short : (size v n l h : ℕ) (s : List ℕ) → length s < n → followed size v n l h s ≡ None
short size v zero l h s q = absurd (omega arith)
short size v (suc n) l h [] q = refl
short size v (suc n) l h (x ∷ s) q =
    ap (λ (r : Option Letter). cond (between l h x) r None) (short size (v * 64 + (x - 0x80)) n 0x80 0xbf s (omega arith)) ∙ either-bad (between l h x)

-- as many bytes as are asked for
taken : (size v n l h : ℕ) (s : List ℕ) → followed size v n l h (take n s) ≡ followed size v n l h s
taken size v zero l h s = refl
taken size v (suc n) l h [] = refl
taken size v (suc n) l h (x ∷ s) = ap (λ (r : Option Letter). cond (between l h x) r None) (taken size (v * 64 + (x - 0x80)) n 0x80 0xbf s)

pub at-end : (s : List ℕ) (i : ℕ) → length s ≤ i → letter_of (drop i s) ≡ None
unfolding letter_of
at-end s i h = ap letter_of (drop_of_length-le s h)

-- the letter by its lead byte and the bytes after it
module _ (x : ℕ) (s : List ℕ) where
  pub is_one : x < 0x80 → letter x 1 ≡ letter_of (x ∷ s)
  unfolding letter_of
  is_one l = sym (ap (λ (g : List ℕ → Option Letter). g s) (one x l))

  pub is-low : 0x80 ≤ x → x < 0xc2 → None ≡ letter_of (x ∷ s)
  unfolding letter_of
  is-low g l = sym (ap (λ (g : List ℕ → Option Letter). g s) (low x g l))

  pub is-high : 0xf5 ≤ x → None ≡ letter_of (x ∷ s)
  unfolding letter_of
  is-high g = sym (high x g s)

  -- of so many bytes more
  module _ (n v l h : ℕ) (row : row_at x ≡ followed (n + 1) v n l h) where
    pub few : length s < n → None ≡ letter_of (x ∷ s)
    unfolding letter_of
    few q = sym (ap (λ (g : List ℕ → Option Letter). g s) row ∙ short (n + 1) v n l h s q)

    pub enough : (rest : List ℕ) → rest ≡ take n s → n ≤ length s → followed (length rest + 1) v (length rest) l h rest ≡ letter_of (x ∷ s)
    unfolding letter_of
    enough rest e q =
        let k : length rest ≡ n = ap length e ∙ length-take n s ∙ omega arith in
        rw (k, e) (taken (n + 1) v n l h s) ∙ sym (ap (λ (g : List ℕ → Option Letter). g s) row)

-- byte by byte
module _ (size v n l h : ℕ) (s : List ℕ) (i : ℕ) (g : i < length s) where
  pub followed-on : between l h (get_or s i 0) ≡ true
      → followed size v (length s - i) l h (drop i s) ≡ followed size (v * 64 + (get_or s i 0 - 0x80)) (length s - (i + 1)) 0x80 0xbf (drop (i + 1) s)
  followed-on e =
      let k : length s - i ≡ suc (length s - (i + 1)) = omega arith in
      rw (k, drop-cons s i 0 g, e, add-one i)

  pub followed-not : between l h (get_or s i 0) ≡ false → followed size v (length s - i) l h (drop i s) ≡ None
  followed-not e =
      let k : length s - i ≡ suc (length s - (i + 1)) = omega arith in
      rw (k, drop-cons s i 0 g, e)
