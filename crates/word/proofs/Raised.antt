-- A signed number that is raised by so much that it is not negative: order, sums and differences go by the raised numbers.
use Rattle.std.proofs.Common.{◌≡◌, ℕ, zero, suc, ◌+◌, ◌-◌, ◌%◌, ◌<◌, ◌≤◌, Bool, true, false, cond, not, ◌&&◌, ltb, leb, ℤ, pos, negsuc, ◌+ℤ◌, ◌-ℤ◌, neg_ℤ, sym, refl, ◌∙◌, mod-eq_of_lt, arith, ltb-false, ltb-true, le-ltb, lt-ltb, le-leb, leb-false, leb-true}
use native.Mathlib.Nat.{mod-eq-sub-mod}
use borrow.Author.Tests.{lt-leb}
use lib.IntN.{sub_ℕ}
use lib.Signed.{le_z, lt_z}

-- z + n
abbrev raise : ℕ → ℤ → ℕ
raise n (pos a) = a + n
raise n (negsuc a) = n - suc a

-- n is enough to raise z above 0, and z is at most n
abbrev Within : ℕ → ℤ → Type 0
Within n (pos a) = a ≤ n
Within n (negsuc a) = suc a ≤ n

-- ---- two tests that say the same

leb-iff : (a b c d : ℕ) → (a ≤ b → c ≤ d) → (c ≤ d → a ≤ b) → leb a b ≡ leb c d
leb-iff a b c d f g = go (leb a b) refl
  where
    go : (t : Bool) → leb a b ≡ t → t ≡ leb c d
    go true e = sym (le-leb c d (f (leb-true a b e)))
    go false e = go2 (leb c d) refl
      where
        go2 : (t : Bool) → leb c d ≡ t → false ≡ t
        go2 true q = let p = g (leb-true c d q) in let l = leb-false a b e in absurd (omega arith)
        go2 false q = refl

-- ---- the order

at_most : (n : ℕ) (z w : ℤ) → Within n z → Within n w → le_z z w ≡ leb (raise n z) (raise n w)
at_most n (pos a) (pos b) p q = leb-iff a b (a + n) (b + n) (omega arith) (omega arith)
at_most n (pos a) (negsuc b) p q = sym (lt-leb (a + n) (n - suc b) (omega arith))
at_most n (negsuc a) (pos b) p q = sym (le-leb (n - suc a) (b + n) (omega arith))
at_most n (negsuc a) (negsuc b) p q = leb-iff b a (n - suc a) (n - suc b) (omega arith) (omega arith)

less : (n : ℕ) (z w : ℤ) → Within n z → Within n w → lt_z z w ≡ ltb (raise n z) (raise n w)
less n (pos a) (pos b) p q = leb-iff (suc a) b (suc (a + n)) (b + n) (omega arith) (omega arith)
less n (pos a) (negsuc b) p q = sym (le-ltb (a + n) (n - suc b) (omega arith))
less n (negsuc a) (pos b) p q = sym (lt-ltb (n - suc a) (b + n) (omega arith))
less n (negsuc a) (negsuc b) p q = leb-iff (suc b) a (suc (n - suc a)) (n - suc b) (omega arith) (omega arith)

-- ---- sums and differences

raise-sub : (n a b : ℕ) → b ≤ a + n → raise n (sub_ℕ a b) ≡ a + n - b
raise-sub n a b h = go (ltb a b) refl
  where
    go : (t : Bool) → ltb a b ≡ t → raise n (cond t (negsuc (b - suc a)) (pos (a - b))) ≡ a + n - b
    go true e = let l = ltb-true a b e in omega arith
    go false e = let l = ltb-false a b e in omega arith

within-sub : (n a b : ℕ) → a ≤ n → b ≤ n → Within n (sub_ℕ a b)
within-sub n a b p q = go (ltb a b) refl
  where
    go : (t : Bool) → ltb a b ≡ t → Within n (cond t (negsuc (b - suc a)) (pos (a - b)))
    go true e = let l = ltb-true a b e in omega arith
    go false e = let l = ltb-false a b e in omega arith

raise-sum : (n m : ℕ) (z w : ℤ) → Within n z → Within m w → raise (n + m) (z +ℤ w) ≡ raise n z + raise m w
raise-sum n m (pos a) (pos b) p q = omega arith
raise-sum n m (pos a) (negsuc b) p q = rw (raise-sub (n + m) a (suc b) (omega arith)) (omega arith)
raise-sum n m (negsuc a) (pos b) p q = rw (raise-sub (n + m) b (suc a) (omega arith)) (omega arith)
raise-sum n m (negsuc a) (negsuc b) p q = omega arith

within-sum : (n m : ℕ) (z w : ℤ) → Within n z → Within m w → Within (n + m) (z +ℤ w)
within-sum n m (pos a) (pos b) p q = omega arith
within-sum n m (pos a) (negsuc b) p q = within-sub (n + m) a (suc b) (omega arith) (omega arith)
within-sum n m (negsuc a) (pos b) p q = within-sub (n + m) b (suc a) (omega arith) (omega arith)
within-sum n m (negsuc a) (negsuc b) p q = omega arith

raise-neg : (n : ℕ) (z : ℤ) → Within n z → raise n (neg_ℤ z) ≡ n + n - raise n z
raise-neg n (pos zero) p = omega arith
raise-neg n (pos (suc a)) p = omega arith
raise-neg n (negsuc a) p = omega arith

within-neg : (n : ℕ) (z : ℤ) → Within n z → Within n (neg_ℤ z)
within-neg n (pos zero) p = p
within-neg n (pos (suc a)) p = p
within-neg n (negsuc a) p = p

-- ---- what 2 * half numbers stand for

pub record Halved (half w : ℕ) : Type 0 where
  pub some : 0 < half
  pub small : w < half + half

abbrev pub signed : ℕ → ℕ → ℤ
signed half w = cond (ltb w half) (pos w) (sub_ℕ w (half + half))

abbrev pub raised : ℕ → ℕ → ℕ
raised half w = (w + half) % (half + half)

raise-signed : (half w : ℕ) → Halved half w → raise half (signed half w) ≡ raised half w
raise-signed half w h = go (ltb w half) refl
  where
    go : (t : Bool) → ltb w half ≡ t → raise half (cond t (pos w) (sub_ℕ w (half + half))) ≡ raised half w
    go true e = let l = ltb-true w half e in sym (mod-eq_of_lt (omega arith))
    go false e =
        let l = ltb-false w half e in
        raise-sub half w (half + half) (omega arith) ∙ sym (mod-eq-sub-mod (omega arith) ∙ mod-eq_of_lt (omega arith))

within_signed : (half w : ℕ) → Halved half w → Within half (signed half w)
within_signed half w h = go (ltb w half) refl
  where
    near : (t : Bool) → ltb w (half + half) ≡ t → half ≤ w → Within half (cond t (negsuc (half + half - suc w)) (pos (w - (half + half))))
    near true e l = omega arith
    near false e l = let m = ltb-false w (half + half) e in omega arith

    go : (t : Bool) → ltb w half ≡ t → Within half (cond t (pos w) (sub_ℕ w (half + half)))
    go true e = let l = ltb-true w half e in omega arith
    go false e = near (ltb w (half + half)) refl (ltb-false w half e)

-- ---- the laws

abbrev pub holds : ℕ → ℤ → Bool
holds half z = le_z (neg_ℤ (pos half)) z && lt_z z (pos half)

inside : (p q x : ℕ) → p ≤ q → not (leb p x && ltb x q) ≡ cond (ltb x p) true (leb q x)
inside p q x h = go (ltb x p) refl (ltb x q) refl
  where
    go : (s : Bool) → ltb x p ≡ s → (t : Bool) → ltb x q ≡ t → not (leb p x && t) ≡ cond s true (leb q x)
    go true e t f = rw (lt-leb p x (ltb-true x p e))
    go false e true f = let l = ltb-false x p e in let m = ltb-true x q f in rw (le-leb p x l, lt-leb q x m)
    go false e false f = let l = ltb-false x p e in let m = ltb-false x q f in rw (le-leb p x l, le-leb q x m)

outside : (half : ℕ) (z : ℤ) → 0 < half → Within (half + half) z
    → not (holds half z) ≡ cond (ltb (raise (half + half) z) half) true (leb (half + half + half) (raise (half + half) z))
outside half z p h =
    let low : raise (half + half) (neg_ℤ (pos half)) ≡ half = raise-neg (half + half) (pos half) (omega arith) ∙ omega arith in
    let top : raise (half + half) (pos half) ≡ half + half + half = omega arith in
    rw (
      at_most (half + half) (neg_ℤ (pos half)) z (within-neg (half + half) (pos half) (omega arith)) h,
      less (half + half) z (pos half) h (omega arith),
      low,
      top,
    ) (inside half (half + half + half) (raise (half + half) z) (omega arith))

module _ (half a b : ℕ) (some : 0 < half) (la : a < half + half) (lb : b < half + half) where
  ha : Halved half a
  ha = record { some = some; small = la }

  hb : Halved half b
  hb = record { some = some; small = lb }

  pub signed-at-most : le_z (signed half a) (signed half b) ≡ leb (raised half a) (raised half b)
  signed-at-most =
      at_most half (signed half a) (signed half b) (within_signed half a ha) (within_signed half b hb)
      ∙ rw (raise-signed half a ha, raise-signed half b hb)

  pub signed-below : lt_z (signed half a) (signed half b) ≡ ltb (raised half a) (raised half b)
  signed-below =
      less half (signed half a) (signed half b) (within_signed half a ha) (within_signed half b hb)
      ∙ rw (raise-signed half a ha, raise-signed half b hb)

  pub sum-outside : not (holds half (signed half a +ℤ signed half b))
      ≡ cond (ltb (raised half a + raised half b) half) true (leb (half + half + half) (raised half a + raised half b))
  sum-outside =
      let p = within_signed half a ha in
      let q = within_signed half b hb in
      outside half (signed half a +ℤ signed half b) some (within-sum half half (signed half a) (signed half b) p q)
      ∙ rw (raise-sum half half (signed half a) (signed half b) p q, raise-signed half a ha, raise-signed half b hb)

  pub difference-outside : not (holds half (signed half a -ℤ signed half b))
      ≡ cond (ltb (raised half a + (half + half - raised half b)) half) true (leb (half + half + half) (raised half a + (half + half - raised half b)))
  difference-outside =
      let p = within_signed half a ha in
      let q = within_signed half b hb in
      let n = within-neg half (signed half b) q in
      outside half (signed half a -ℤ signed half b) some (within-sum half half (signed half a) (neg_ℤ (signed half b)) p n)
      ∙ rw (raise-sum half half (signed half a) (neg_ℤ (signed half b)) p n, raise-neg half (signed half b) q, raise-signed half a ha, raise-signed half b hb)
