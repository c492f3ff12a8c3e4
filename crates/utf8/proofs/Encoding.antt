-- Encoding and reading: what is encoded is read back, and what is read is what encoding gives, so that a letter has one form.
use Prim.Native.Nat.{ℕ, suc, ◌+◌, ◌-◌, ◌*◌, ◌/◌, ◌%◌, ◌<◌, ◌≤◌}
use mathlib.Core.Path.{◌≡◌, refl, sym, ap, ◌∙◌}
use mathlib.Core.Bool.{Bool, true, false, cond, or-true}
use mathlib.Core.List.{List, [], ◌∷◌, ◌++◌}
use mathlib.Core.Logic.{◌⊎◌, inl, inr, ⊎_elim}
use native.Mathlib.Omega.{arith}
use borrow.Author.Tests.{ltb-true, ltb-false, lt-ltb, le-ltb, le-leb, eqb-true, eqb-false, ne_eqb}
use lib.Dec.{eqb, ltb}
use lib.ListN.{length, drop}
use lib.Seq.{drop-append_seam}
use Rattle.utf8.specs.Utf8.{letter, between, followed, letter_of, onto, points, encoded, is_scalar, all_scalar, encoded_all}
use Rattle.utf8.specs.Code.{low_after, high_after}
use Rattle.utf8.specs.declared.Letter.{Letter}
use Rattle.utf8.proofs.Leads.{row_at, one, low, two, three, four, high, both, passed, same}
use Rattle.utf8.proofs.Reading.{not-bad, none_left, first-letter, first-bad}
use Rattle.std.specs.Prelude.{Option, Some, None}

split : {P : Type 0} (c m : ℕ) → (c < m → P) → (m ≤ c → P) → P
split {P = P} c m f g = go (ltb c m) refl
  where
    go : (t : Bool) → ltb c m ≡ t → P
    go true q = f (ltb-true c m q)
    go false q = g (ltb-false c m q)

equal : {P : Type 0} (c m : ℕ) → (c ≡ m → P) → ((c ≡ m → ⊥) → P) → P
equal {P = P} c m f g = go (eqb c m) refl
  where
    go : (t : Bool) → eqb c m ≡ t → P
    go true q = f (eqb-true c m q)
    go false q = g (eqb-false c m q)

within : (l h x : ℕ) → l ≤ x → x ≤ h → between l h x ≡ true
within l h x p q = rw (le-leb l x p, le-leb x h q)

-- the first byte that follows, by the number that it makes with its lead byte
low-three : (x b : ℕ) → x < 0xf0 → 0x80 ≤ b → 0x20 ≤ (x - 0xe0) * 64 + (b - 0x80) → low_after x ≤ b
unfolding low_after
low-three x b h l g =
    equal x 0xe0 (λ e. rw e (omega arith)) (λ n. rw (ne_eqb x 0xe0 n, ne_eqb x 0xf0 (λ e. omega arith)) l)

high-three : (x b : ℕ) → 0xe0 ≤ x → x < 0xf0 → b ≤ 0xbf → ((x - 0xe0) * 64 + (b - 0x80) < 0x360) ⊎ (0x380 ≤ (x - 0xe0) * 64 + (b - 0x80)) → b ≤ high_after x
unfolding high_after
high-three x b h l g k =
    equal x 0xed (λ e. rw e (⊎_elim (λ v. omega arith) (λ v. omega arith) k)) (λ n. rw (ne_eqb x 0xed n, ne_eqb x 0xf4 (λ e. omega arith)) g)

low-four : (x b : ℕ) → 0xf0 ≤ x → 0x80 ≤ b → 0x10 ≤ (x - 0xf0) * 64 + (b - 0x80) → low_after x ≤ b
unfolding low_after
low-four x b h l g = rw (ne_eqb x 0xe0 (λ e. omega arith)) (equal x 0xf0 (λ e. rw e (omega arith)) (λ n. rw (ne_eqb x 0xf0 n) l))

high-four : (x b : ℕ) → 0xf0 ≤ x → b ≤ 0xbf → (x - 0xf0) * 64 + (b - 0x80) < 0x110 → b ≤ high_after x
unfolding high_after
high-four x b h l g = rw (ne_eqb x 0xed (λ e. omega arith)) (equal x 0xf4 (λ e. rw e (omega arith)) (λ n. rw (ne_eqb x 0xf4 n) l))

-- and the other way
of_three : (x b : ℕ) → 0xe0 ≤ x → x < 0xf0 → low_after x ≤ b → b ≤ high_after x
    → (0x80 ≤ b) × (b ≤ 0xbf) × (0x20 ≤ (x - 0xe0) * 64 + (b - 0x80)) × (((x - 0xe0) * 64 + (b - 0x80) < 0x360) ⊎ (0x380 ≤ (x - 0xe0) * 64 + (b - 0x80)))
unfolding low_after high_after
of_three x b h l g k =
    equal x 0xe0
    (λ e. let m : 0xa0 ≤ b = rw e at g in let n : b ≤ 0xbf = rw e at k in (omega arith, n, omega arith, inl (omega arith)))
    (λ d.
    let m : 0x80 ≤ b = rw (ne_eqb x 0xe0 d, ne_eqb x 0xf0 (λ e. omega arith)) at g in
    equal x 0xed
    (λ e. let n : b ≤ 0x9f = rw e at k in (m, omega arith, omega arith, inl (omega arith)))
    (λ f.
    let n : b ≤ 0xbf = rw (ne_eqb x 0xed f, ne_eqb x 0xf4 (λ e. omega arith)) at k in
    (m, n, omega arith, split x 0xed (λ u. inl (omega arith)) (λ u. inr (omega arith)))))

of_four : (x b : ℕ) → 0xf0 ≤ x → x < 0xf5 → low_after x ≤ b → b ≤ high_after x
    → (0x80 ≤ b) × (b ≤ 0xbf) × (0x10 ≤ (x - 0xf0) * 64 + (b - 0x80)) × ((x - 0xf0) * 64 + (b - 0x80) < 0x110)
unfolding low_after high_after
of_four x b h l g k =
    equal x 0xf0
    (λ e. let m : 0x90 ≤ b = rw e at g in let n : b ≤ 0xbf = rw e at k in (omega arith, n, omega arith, omega arith))
    (λ d.
    let m : 0x80 ≤ b = rw (ne_eqb x 0xe0 (λ e. omega arith), ne_eqb x 0xf0 d) at g in
    equal x 0xf4
    (λ e. let n : b ≤ 0x8f = rw e at k in (m, omega arith, omega arith, omega arith))
    (λ f.
    let n : b ≤ 0xbf = rw (ne_eqb x 0xed (λ e. omega arith), ne_eqb x 0xf4 f) at k in
    (m, n, omega arith, omega arith)))

-- a letter from its bytes
module _ (x b : ℕ) (s : List ℕ) where
  read-two : 0xc2 ≤ x → x < 0xe0 → 0x80 ≤ b → b ≤ 0xbf → letter_of (x ∷ b ∷ s) ≡ letter ((x - 0xc0) * 64 + (b - 0x80)) 2
  unfolding letter_of
  read-two g l p q = ap (λ (f : List ℕ → Option Letter). f (b ∷ s)) (two x g l) ∙ rw (within 0x80 0xbf b p q)

  read-three : (d : ℕ) → 0xe0 ≤ x → x < 0xf0 → low_after x ≤ b → b ≤ high_after x → 0x80 ≤ d → d ≤ 0xbf
      → letter_of (x ∷ b ∷ d ∷ s) ≡ letter (((x - 0xe0) * 64 + (b - 0x80)) * 64 + (d - 0x80)) 3
  unfolding letter_of
  read-three d g l p q m n = ap (λ (f : List ℕ → Option Letter). f (b ∷ d ∷ s)) (three x g l) ∙ rw (within (low_after x) (high_after x) b p q, within 0x80 0xbf d m n)

  read-four : (d k : ℕ) → 0xf0 ≤ x → x < 0xf5 → low_after x ≤ b → b ≤ high_after x → 0x80 ≤ d → d ≤ 0xbf → 0x80 ≤ k → k ≤ 0xbf
      → letter_of (x ∷ b ∷ d ∷ k ∷ s) ≡ letter ((((x - 0xf0) * 64 + (b - 0x80)) * 64 + (d - 0x80)) * 64 + (k - 0x80)) 4
  unfolding letter_of
  read-four d k g l p q m n u v =
      ap (λ (f : List ℕ → Option Letter). f (b ∷ d ∷ k ∷ s)) (four x g l)
      ∙ rw (within (low_after x) (high_after x) b p q, within 0x80 0xbf d m n, within 0x80 0xbf k u v)

-- the encoding, by how many bytes
encoded-1 : (c : ℕ) → c < 0x80 → encoded c ≡ c ∷ []
unfolding encoded
encoded-1 c h = rw (lt-ltb c 0x80 h)

encoded-2 : (c : ℕ) → 0x80 ≤ c → c < 0x800 → encoded c ≡ (0xc0 + c / 64) ∷ (0x80 + c % 64) ∷ []
unfolding encoded
encoded-2 c g h = rw (le-ltb c 0x80 g, lt-ltb c 0x800 h)

encoded-3 : (c : ℕ) → 0x800 ≤ c → c < 0x10000 → encoded c ≡ (0xe0 + c / 4096) ∷ (0x80 + c / 64 % 64) ∷ (0x80 + c % 64) ∷ []
unfolding encoded
encoded-3 c g h = rw (le-ltb c 0x80 (omega arith), le-ltb c 0x800 g, lt-ltb c 0x10000 h)

encoded-4 : (c : ℕ) → 0x10000 ≤ c → encoded c ≡ (0xf0 + c / 262144) ∷ (0x80 + c / 4096 % 64) ∷ (0x80 + c / 64 % 64) ∷ (0x80 + c % 64) ∷ []
unfolding encoded
encoded-4 c g = rw (le-ltb c 0x80 (omega arith), le-ltb c 0x800 (omega arith), le-ltb c 0x10000 g)

-- no surrogate, and nothing over 0x10ffff
parted : (c : ℕ) → is_scalar c ≡ true → (c < 0xd800) ⊎ ((0xe000 ≤ c) × (c ≤ 0x10ffff))
parted c e = split c 0xd800 (λ h. inl h) (λ h. inr (passed 0xe000 0x10ffff c (rw (le-ltb c 0xd800 h) at e)))

low_scalar : (c : ℕ) → c < 0xd800 → is_scalar c ≡ true
low_scalar c h = rw (lt-ltb c 0xd800 h)

high_scalar : (c : ℕ) → 0xe000 ≤ c → c ≤ 0x10ffff → is_scalar c ≡ true
high_scalar c g h = rw (within 0xe000 0x10ffff c g h, or-true (ltb c 0xd800))

-- an encoded code point is read back, whatever follows it
module _ (c : ℕ) (s : List ℕ) where
  Back : Type 0
  Back = letter_of (encoded c ++ s) ≡ letter c (length (encoded c))

  back-1 : c < 0x80 → Back
  unfolding Back letter_of
  back-1 h = rw (encoded-1 c h) (ap (λ (f : List ℕ → Option Letter). f s) (one c h))

  back-2 : 0x80 ≤ c → c < 0x800 → Back
  unfolding Back
  back-2 g h =
      let x = 0xc0 + c / 64 in let b = 0x80 + c % 64 in
      rw (encoded-2 c g h)
      (read-two x b s (omega arith) (omega arith) (omega arith) (omega arith) ∙ ap (λ (v : ℕ). letter v 2) (omega arith))

  back-3 : 0x800 ≤ c → c < 0x10000 → (c < 0xd800) ⊎ (0xe000 ≤ c) → Back
  unfolding Back
  back-3 g h k =
      let x = 0xe0 + c / 4096 in let b = 0x80 + c / 64 % 64 in let d = 0x80 + c % 64 in
      let l = low-three x b (omega arith) (omega arith) (omega arith) in
      let m = high-three x b (omega arith) (omega arith) (omega arith) (⊎_elim (λ u. inl (omega arith)) (λ u. inr (omega arith)) k) in
      rw (encoded-3 c g h)
      (read-three x b s d (omega arith) (omega arith) l m (omega arith) (omega arith) ∙ ap (λ (v : ℕ). letter v 3) (omega arith))

  back-4 : 0x10000 ≤ c → c ≤ 0x10ffff → Back
  unfolding Back
  back-4 g h =
      let x = 0xf0 + c / 262144 in let b = 0x80 + c / 4096 % 64 in let d = 0x80 + c / 64 % 64 in let k = 0x80 + c % 64 in
      let e : c / 64 ≡ c / 4096 * 64 + c / 64 % 64 = omega arith in
      let f : c / 4096 ≡ c / 262144 * 64 + c / 4096 % 64 = omega arith in
      let l = low-four x b (omega arith) (omega arith) (omega arith) in
      let m = high-four x b (omega arith) (omega arith) (omega arith) in
      rw (encoded-4 c g)
      (read-four x b s d k (omega arith) (omega arith) l m (omega arith) (omega arith) (omega arith) (omega arith) ∙ ap (λ (v : ℕ). letter v 4) (omega arith))

  pub decodes : is_scalar c ≡ true → letter_of (encoded c ++ s) ≡ letter c (length (encoded c))
  unfolding Back
  decodes e =
      let p = parted c e in
      split c 0x80 back-1 (λ g. split c 0x800 (back-2 g) (λ g. split c 0x10000
      (λ h. back-3 g h (⊎_elim (λ u. inl u) (λ u. inr u.0) p))
      (λ h. back-4 h (⊎_elim (λ u. omega arith) (λ u. u.1) p))))

pub all-decode : (cs : List ℕ) → all_scalar cs ≡ true → points (encoded_all cs) ≡ Some cs
all-decode [] e = none_left [] 0 (omega arith)
all-decode (c ∷ cs) e =
    let p = both (is_scalar c) (all_scalar cs) e in
    first-letter (encoded c ++ encoded_all cs) c (length (encoded c)) (decodes c (encoded_all cs) p.0)
    ∙ ap (λ (r : List ℕ). onto c (points r)) (drop-append_seam (encoded c) (encoded_all cs)) ∙ ap (onto c) (all-decode cs p.1)

-- the other way: one byte of a letter that was read
peel : (size v n l h : ℕ) (t : List ℕ) (c m : ℕ) → followed size v (suc n) l h t ≡ letter c m
    → (b : ℕ) × (u : List ℕ) × (t ≡ b ∷ u) × (l ≤ b) × (b ≤ h) × (followed size (v * 64 + (b - 0x80)) n 0x80 0xbf u ≡ letter c m)
peel size v n l h [] c m e = not-bad c m e
peel size v n l h (b ∷ u) c m e = go (between l h b) refl e
  where
    rest : Option Letter
    rest = followed size (v * 64 + (b - 0x80)) n 0x80 0xbf u

    go : (t : Bool) → between l h b ≡ t → cond t rest None ≡ letter c m
        → (d : ℕ) × (w : List ℕ) × (b ∷ u ≡ d ∷ w) × (l ≤ d) × (d ≤ h) × (followed size (v * 64 + (d - 0x80)) n 0x80 0xbf w ≡ letter c m)
    go true q f = let p = passed l h b q in (b, u, refl, p.0, p.1, f)
    go false q f = not-bad c m f

-- what was read of s is the encoding of what it says
abbrev Whole : List ℕ → ℕ → ℕ → Type 0
Whole s c n = (is_scalar c ≡ true) × (encoded c ++ drop n s ≡ s)

rejoined : (front u s : List ℕ) (c n : ℕ) → encoded c ≡ front → s ≡ front ++ u → n ≡ length front → encoded c ++ drop n s ≡ s
rejoined front u s c n e f g = rw (e, f, g) (ap (λ (r : List ℕ). front ++ r) (drop-append_seam front u))

module _ (x b c n : ℕ) (u : List ℕ) where
  whole-2 : (t : List ℕ) → 0xc2 ≤ x → x < 0xe0 → t ≡ b ∷ u → 0x80 ≤ b → b ≤ 0xbf → letter ((x - 0xc0) * 64 + (b - 0x80)) 2 ≡ letter c n → Whole (x ∷ t) c n
  whole-2 t g h e p q f =
      let i : c ≡ (x - 0xc0) * 64 + (b - 0x80) = sym (same f).0 in let j : n ≡ 2 = sym (same f).1 in
      let y : 0xc0 + c / 64 ≡ x = omega arith in
      let z : 0x80 + c % 64 ≡ b = omega arith in
      (low_scalar c (omega arith), rejoined (x ∷ b ∷ []) u (x ∷ t) c n (encoded-2 c (omega arith) (omega arith) ∙ rw (y, z)) (ap (λ (r : List ℕ). x ∷ r) e) j)

  whole-3 : (d : ℕ) (t w : List ℕ) → 0xe0 ≤ x → x < 0xf0 → t ≡ b ∷ w → low_after x ≤ b → b ≤ high_after x → w ≡ d ∷ u → 0x80 ≤ d → d ≤ 0xbf
      → letter (((x - 0xe0) * 64 + (b - 0x80)) * 64 + (d - 0x80)) 3 ≡ letter c n → Whole (x ∷ t) c n
  whole-3 d t w g h e k l e2 p q f =
      let m = of_three x b g h k l in
      let i : c ≡ ((x - 0xe0) * 64 + (b - 0x80)) * 64 + (d - 0x80) = sym (same f).0 in let j : n ≡ 3 = sym (same f).1 in
      let o : 0xe0 + c / 4096 ≡ x = omega arith in
      let y : 0x80 + c / 64 % 64 ≡ b = omega arith in
      let z : 0x80 + c % 64 ≡ d = omega arith in (
        ⊎_elim (λ v. low_scalar c (omega arith)) (λ v. high_scalar c (omega arith) (omega arith)) m.3,
        rejoined (x ∷ b ∷ d ∷ []) u (x ∷ t) c n (encoded-3 c (omega arith) (omega arith) ∙ rw (o, y, z)) (ap (λ (r : List ℕ). x ∷ r) (e ∙ ap (λ (r : List ℕ). b ∷ r) e2)) j,
      )

  whole-4 : (d k : ℕ) (t w v : List ℕ) → 0xf0 ≤ x → x < 0xf5 → t ≡ b ∷ w → low_after x ≤ b → b ≤ high_after x → w ≡ d ∷ v → 0x80 ≤ d → d ≤ 0xbf → v ≡ k ∷ u → 0x80 ≤ k → k ≤ 0xbf
      → letter ((((x - 0xf0) * 64 + (b - 0x80)) * 64 + (d - 0x80)) * 64 + (k - 0x80)) 4 ≡ letter c n → Whole (x ∷ t) c n
  whole-4 d k t w v g h e l l2 e2 p q e3 p2 q2 f =
      let m = of_four x b g h l l2 in
      let i : c ≡ (((x - 0xf0) * 64 + (b - 0x80)) * 64 + (d - 0x80)) * 64 + (k - 0x80) = sym (same f).0 in let j : n ≡ 4 = sym (same f).1 in
      let o : 0xf0 + c / 262144 ≡ x = omega arith in
      let r : 0x80 + c / 4096 % 64 ≡ b = omega arith in
      let y : 0x80 + c / 64 % 64 ≡ d = omega arith in
      let z : 0x80 + c % 64 ≡ k = omega arith in (
        high_scalar c (omega arith) (omega arith),
        rejoined (x ∷ b ∷ d ∷ k ∷ []) u (x ∷ t) c n (encoded-4 c (omega arith) ∙ rw (o, r, y, z))
            (ap (λ (r : List ℕ). x ∷ r) (e ∙ ap (λ (r : List ℕ). b ∷ r) (e2 ∙ ap (λ (r : List ℕ). d ∷ r) e3))) j,
      )

module _ (x : ℕ) (t : List ℕ) (c n : ℕ) (e : letter_of (x ∷ t) ≡ letter c n) where
  by-lead : (f : List ℕ → Option Letter) → row_at x ≡ f → f t ≡ letter c n
  unfolding letter_of
  by-lead f p = sym (ap (λ (g : List ℕ → Option Letter). g t) p) ∙ e

  lead-1 : x < 0x80 → Whole (x ∷ t) c n
  lead-1 h =
      let f = by-lead (λ _. letter x 1) (one x h) in
      let p : c ≡ x = sym (same f).0 in let q : n ≡ 1 = sym (same f).1 in
      rw p (low_scalar x (omega arith), rejoined (x ∷ []) t (x ∷ t) x n (encoded-1 x h) refl q)

  lead-2 : 0xc2 ≤ x → x < 0xe0 → Whole (x ∷ t) c n
  lead-2 g h =
      let p = peel 2 (x - 0xc0) 0 0x80 0xbf t c n (by-lead (followed 2 (x - 0xc0) 1 0x80 0xbf) (two x g h)) in
      whole-2 x p.0 c n p.1 t g h p.2 p.3 p.4 p.5

  lead-3 : 0xe0 ≤ x → x < 0xf0 → Whole (x ∷ t) c n
  lead-3 g h =
      let p = peel 3 (x - 0xe0) 1 (low_after x) (high_after x) t c n (by-lead (followed 3 (x - 0xe0) 2 (low_after x) (high_after x)) (three x g h)) in
      let q = peel 3 ((x - 0xe0) * 64 + (p.0 - 0x80)) 0 0x80 0xbf p.1 c n p.5 in
      whole-3 x p.0 c n q.1 q.0 t p.1 g h p.2 p.3 p.4 q.2 q.3 q.4 q.5

  lead-4 : 0xf0 ≤ x → x < 0xf5 → Whole (x ∷ t) c n
  lead-4 g h =
      let p = peel 4 (x - 0xf0) 2 (low_after x) (high_after x) t c n (by-lead (followed 4 (x - 0xf0) 3 (low_after x) (high_after x)) (four x g h)) in
      let v = (x - 0xf0) * 64 + (p.0 - 0x80) in
      let q = peel 4 v 1 0x80 0xbf p.1 c n p.5 in
      let r = peel 4 (v * 64 + (q.0 - 0x80)) 0 0x80 0xbf q.1 c n q.5 in
      whole-4 x p.0 c n r.1 q.0 r.0 t p.1 q.1 g h p.2 p.3 p.4 q.2 q.3 q.4 r.2 r.3 r.4 r.5

  lead-any : Whole (x ∷ t) c n
  unfolding letter_of
  lead-any =
      split x 0x80 lead-1
      (λ g. split x 0xc2 (λ h. not-bad c n (by-lead (λ _. None) (low x g h)))
      (λ g. split x 0xe0 (lead-2 g)
      (λ g. split x 0xf0 (lead-3 g)
      (λ g. split x 0xf5 (lead-4 g) (λ g. not-bad c n (sym (high x g t) ∙ e))))))

pub is-encoded : (s : List ℕ) (c n : ℕ) → letter_of s ≡ letter c n → (is_scalar c ≡ true) × (encoded c ++ drop n s ≡ s)
unfolding letter_of
is-encoded [] c n e = not-bad c n e
is-encoded (x ∷ t) c n e = lead-any x t c n e

-- a text of which the first code point is told
begun : (s : List ℕ) (c : ℕ) (cs : List ℕ) → points s ≡ Some (c ∷ cs) → (n : ℕ) × (letter_of s ≡ letter c n) × (points (drop n s) ≡ Some cs)
begun s c cs e = go (letter_of s) refl
  where
    more : (d n : ℕ) → letter_of s ≡ letter d n → (o : Option (List ℕ)) → points (drop n s) ≡ o → onto d o ≡ Some (c ∷ cs)
        → (n : ℕ) × (letter_of s ≡ letter c n) × (points (drop n s) ≡ Some cs)
    more d n f None p q = let z : ◌≡◌ {A = ℕ} 0 1 = cc in absurd (omega arith)
    more d n f (Some ds) p q = let i : d ≡ c = cc in let j : ds ≡ cs = cc in (n, f ∙ ap (λ (k : ℕ). letter k n) i, p ∙ ap Some j)

    bad : (s : List ℕ) → points s ≡ Some (c ∷ cs) → letter_of s ≡ None → ⊥
    bad [] p q = let o = none_left [] 0 (omega arith) in let z : ◌≡◌ {A = ℕ} 0 1 = cc in omega arith
    bad (x ∷ t) p q = let o = first-bad (x ∷ t) (omega arith) q in let z : ◌≡◌ {A = ℕ} 0 1 = cc in omega arith

    go : (r : Option Letter) → letter_of s ≡ r → (n : ℕ) × (letter_of s ≡ letter c n) × (points (drop n s) ≡ Some cs)
    go (Some l) f = more l.point l.length f (points (drop l.length s)) refl (sym (first-letter s l.point l.length f) ∙ e)
    go None f = absurd (bad s e f)

-- a text without a code point is empty
empty : (s : List ℕ) → points s ≡ Some [] → s ≡ []
empty [] e = refl
empty (x ∷ t) e = go (letter_of (x ∷ t)) refl
  where
    more : (d : ℕ) (o : Option (List ℕ)) → onto d o ≡ Some [] → ⊥
    more d None q = let z : ◌≡◌ {A = ℕ} 0 1 = cc in omega arith
    more d (Some ds) q = let z : ◌≡◌ {A = ℕ} 0 1 = cc in omega arith

    go : (r : Option Letter) → letter_of (x ∷ t) ≡ r → x ∷ t ≡ []
    go (Some l) f = absurd (more l.point (points (drop l.length (x ∷ t))) (sym (first-letter (x ∷ t) l.point l.length f) ∙ e))
    go None f = let o = first-bad (x ∷ t) (omega arith) f in let z : ◌≡◌ {A = ℕ} 0 1 = cc in absurd (omega arith)

pub all-encoded : (cs s : List ℕ) → points s ≡ Some cs → (encoded_all cs ≡ s) × (all_scalar cs ≡ true)
all-encoded [] s e = (sym (empty s e), refl)
all-encoded (c ∷ cs) s e =
    let b = begun s c cs e in
    let p = is-encoded s c b.0 b.1 in
    let q = all-encoded cs (drop b.0 s) b.2 in
    (ap (λ (r : List ℕ). encoded c ++ r) q.0 ∙ p.1, rw p.0 q.1)
