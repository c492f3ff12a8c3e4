-- A key tells its word, so that what has a word's key has the word as its name; the loop that makes a key.
use mathlib.Core.Path.{◌≡◌, refl, sym, ap, ◌∙◌}
use mathlib.Core.Bool.{Bool, true, false, cond, ◌&&◌, and-false}
use mathlib.Core.List.{List, [], ◌∷◌, ◌++◌, map}
use Rattle.std.specs.Prelude.{Some, None}
use Prim.Native.Nat.{ℕ, zero, suc, ◌+◌, ◌*◌, ◌^◌, ◌≤◌, ◌<◌}
use native.Mathlib.Omega.{arith}
use borrow.Author.Tests.{eq-eqb, ne_eqb, eqb-true, ltb-true, leb-true, le-leb, lt-leb}
use mir.Val.{Fits}
use mir.Syntax.{w8}
use lib.Dec.{eqb, leb, ltb}
use lib.ListN.{length, get_or, length-map, get_or-map}
use Rattle.std.proofs.lemmas.List.{append-nil, append_assoc, length-append, get_or-append-add}
use Rattle.names.specs.Names.{lower, same, spells, place_in}
use Rattle.names.specs.Code.{pack, nonzero, keyable, key_of, seek_in}

pub left : (a b : Bool) → (a && b) ≡ true → a ≡ true
left true b e = refl
left false b e = e

pub right : (a b : Bool) → (a && b) ≡ true → b ≡ true
right true b e = e
right false b e = let z : ◌≡◌ {A = ℕ} 0 1 = cc in absurd (omega arith)

-- ---- words of bytes

pub Bytes : List ℕ → Type 0
Bytes w = (j : ℕ) → get_or w j 0 ≤ 255

-- what is known of a lent slice's elements
pub known_bytes : (w : List ℕ) → ((j : ℕ) → Fits w8 (get_or w j 0)) → Bytes w
unfolding Bytes
known_bytes w h j = let f = h j in omega arith

head_byte : (b : ℕ) (w : List ℕ) → Bytes (b ∷ w) → b ≤ 255
unfolding Bytes
head_byte b w h = h 0

tail-bytes : (b : ℕ) (w : List ℕ) → Bytes (b ∷ w) → Bytes w
unfolding Bytes
tail-bytes b w h = λ j. h (suc j)

pub same-eq : (w n : List ℕ) → same w n ≡ true → w ≡ n
same-eq [] [] e = refl
same-eq [] (y ∷ ys) e = let z : ◌≡◌ {A = ℕ} 0 1 = cc in absurd (omega arith)
same-eq (x ∷ xs) [] e = let z : ◌≡◌ {A = ℕ} 0 1 = cc in absurd (omega arith)
same-eq (x ∷ xs) (y ∷ ys) e =
    let p = eqb-true x y (left (eqb x y) (same xs ys) e) in
    let q = same-eq xs ys (right (eqb x y) (same xs ys) e) in
    cc

same_self : (w : List ℕ) → same w w ≡ true
same_self [] = refl
same_self (x ∷ xs) = rw (eq-eqb x x refl) (same_self xs)

-- a number of bytes that are not 0 has one word
pack_one : (w n : List ℕ) → Bytes w → Bytes n → nonzero w ≡ true → nonzero n ≡ true → pack w ≡ pack n → w ≡ n
pack_one [] [] bw bn p q e = refl
pack_one [] (y ∷ ys) bw bn p q e = let l = leb-true 1 y (left (leb 1 y) (nonzero ys) q) in absurd (omega arith)
pack_one (x ∷ xs) [] bw bn p q e = let l = leb-true 1 x (left (leb 1 x) (nonzero xs) p) in absurd (omega arith)
pack_one (x ∷ xs) (y ∷ ys) bw bn p q e =
    let a = head_byte x xs bw in
    let b = head_byte y ys bn in
    let h : x ≡ y = omega arith in
    let t =
    pack_one xs ys (tail-bytes x xs bw) (tail-bytes y ys bn) (right (leb 1 x) (nonzero xs) p) (right (leb 1 y) (nonzero ys) q) (omega arith) in
    cc

-- ---- the key of a word

abbrev pub small : List ℕ → Bool
small [] = true
small (b ∷ bs) = leb b 255 && small bs

-- a name that a table may hold: none, or one to seven bytes that are not 0
abbrev pub tidy : List ℕ → Bool
tidy n = keyable n && small n

small_bytes : (w : List ℕ) → small w ≡ true → Bytes w
unfolding Bytes
small_bytes [] e j = omega arith
small_bytes (b ∷ w) e zero = leb-true b 255 (left (leb b 255) (small w) e)
small_bytes (b ∷ w) e (suc j) = small_bytes w (right (leb b 255) (small w) e) j

-- what has a key is bytes that are not 0, and the key is their number
pub record Keyed (w : List ℕ) (key : ℕ) : Type 0 where
  pub some : nonzero w ≡ true
  pub is : key ≡ pack w
  pub begun : 1 ≤ length w

pub keyed : (w : List ℕ) (key : ℕ) → key_of w ≡ Some key → Keyed w key
keyed [] key e = let z : ◌≡◌ {A = ℕ} 0 1 = cc in absurd (omega arith)
keyed (b ∷ w) key e = go (keyable (b ∷ w)) refl e
  where
    go : (x : Bool) → keyable (b ∷ w) ≡ x → cond x (Some (pack (b ∷ w))) None ≡ Some key → Keyed (b ∷ w) key
    go true q e = record { some = right (leb (suc (length w)) 7) _ q; is = cc; begun = omega arith }
    go false q e = let z : ◌≡◌ {A = ℕ} 0 1 = cc in absurd (omega arith)

-- a key is never 0
pub key-some : (w : List ℕ) (key : ℕ) → key_of w ≡ Some key → eqb key 0 ≡ false
key-some w key e = let k = keyed w key e in go w k.some k.begun k.is
  where
    go : (v : List ℕ) → nonzero v ≡ true → 1 ≤ length v → key ≡ pack v → eqb key 0 ≡ false
    go [] s l q = absurd (omega arith)
    go (b ∷ v) s l q =
        let m = leb-true 1 b (left (leb 1 b) (nonzero v) s) in
        ne_eqb key 0 (λ z. omega arith)

module _ (c : ℕ) (n : List ℕ) (t : tidy (c ∷ n) ≡ true) where
  can : keyable (c ∷ n) ≡ true
  can = left (keyable (c ∷ n)) (small (c ∷ n)) t

  whole : nonzero (c ∷ n) ≡ true
  whole = right (leb (suc (length n)) 7) _ can

  key-same : (w : List ℕ) → Bytes w → (key : ℕ) → key_of w ≡ Some key → eqb key (pack (c ∷ n)) ≡ same w (c ∷ n)
  key-same w bw key e = go (same w (c ∷ n)) refl
    where
      k : Keyed w key
      k = keyed w key e

      go : (x : Bool) → same w (c ∷ n) ≡ x → eqb key (pack (c ∷ n)) ≡ x
      go true s = eq-eqb _ _ (k.is ∙ ap pack (same-eq w (c ∷ n) s))
      go false s =
          ne_eqb _ _
          (λ q.
          let o = pack_one w (c ∷ n) bw (small_bytes (c ∷ n) (right (keyable (c ∷ n)) _ t)) k.some whole (sym k.is ∙ q) in
          let z : ◌≡◌ {A = ℕ} 0 1 = cc (s, same_self (c ∷ n), o) in
          omega arith)

  unkeyed-other : (w : List ℕ) → key_of w ≡ None → same w (c ∷ n) ≡ false
  unkeyed-other w e = go (same w (c ∷ n)) refl
    where
      go : (x : Bool) → same w (c ∷ n) ≡ x → same w (c ∷ n) ≡ false
      go true s =
          let k : key_of (c ∷ n) ≡ Some (pack (c ∷ n)) = rw can in
          let z : ◌≡◌ {A = ℕ} 0 1 = cc (e, k, same-eq w (c ∷ n) s) in
          absurd (omega arith)
      go false s = s

pub key-spells : (w : List ℕ) → Bytes w → (key : ℕ) → key_of w ≡ Some key → (n : List ℕ) → tidy n ≡ true → eqb key (pack n) ≡ spells w n
key-spells w bw key e [] t = key-some w key e
key-spells w bw key e (c ∷ n) t = key-same c n t w bw key e

unkeyed-spells : (w : List ℕ) → key_of w ≡ None → (n : List ℕ) → tidy n ≡ true → spells w n ≡ false
unkeyed-spells w e [] t = refl
unkeyed-spells w e (c ∷ n) t = unkeyed-other c n t w e

abbrev pub all_tidy : List (List ℕ) → Bool
all_tidy [] = true
all_tidy (n ∷ ns) = tidy n && all_tidy ns

-- what has no key has no place among names
pub unkeyed-place : (w : List ℕ) → key_of w ≡ None → (ns : List (List ℕ)) → all_tidy ns ≡ true → place_in ns w ≡ length ns
unkeyed-place w e [] t = refl
unkeyed-place w e (n ∷ ns) t =
    rw (unkeyed-spells w e n (left (tidy n) (all_tidy ns) t), unkeyed-place w e ns (right (tidy n) (all_tidy ns) t))

-- ---- a number that a word's key suggests, the only one whose name can have that key: it is the word's, or the word names none

module _ (w : List ℕ) (bw : Bytes w) (key : ℕ) (e : key_of w ≡ Some key) where
  pub seek-place : (ns : List (List ℕ)) → all_tidy ns ≡ true → seek_in (map pack ns) key ≡ place_in ns w
  seek-place [] t = refl
  seek-place (n ∷ ns) t = rw (key-spells w bw key e n (left (tidy n) (all_tidy ns) t), seek-place ns (right (tidy n) (all_tidy ns) t))

  -- if there is a name at the place, it has the word's key
  abbrev Has : List (List ℕ) → ℕ → Type 0
  Has ns k = k < length ns → pack (get_or ns k []) ≡ key

  placed-key : (ns : List (List ℕ)) → all_tidy ns ≡ true → Has ns (place_in ns w)
  placed-key [] t l = absurd (omega arith)
  placed-key (n ∷ ns) t l = go (spells w n) refl (placed-key ns (right (tidy n) (all_tidy ns) t)) l
    where
      go : (b : Bool) → spells w n ≡ b → Has ns (place_in ns w) → Has (n ∷ ns) (cond b 0 (suc (place_in ns w)))
      go true q r l = sym (eqb-true _ _ (key-spells w bw key e n (left (tidy n) (all_tidy ns) t) ∙ q))
      go false q r l = r (omega arith)

  -- a word with the key of one of the names has a place among them
  placed_below : (ns : List (List ℕ)) → all_tidy ns ≡ true → (k : ℕ) → k < length ns → pack (get_or ns k []) ≡ key → place_in ns w < length ns
  placed_below [] t k h q = absurd (omega arith)
  placed_below (n ∷ ns) t zero h q = rw (← key-spells w bw key e n (left (tidy n) (all_tidy ns) t), eq-eqb _ _ (sym q)) (omega arith)
  placed_below (n ∷ ns) t (suc k) h q = go (spells w n) (placed_below ns (right (tidy n) (all_tidy ns) t) k (omega arith) q)
    where
      go : (b : Bool) → place_in ns w < length ns → cond b 0 (suc (place_in ns w)) < suc (length ns)
      go true l = omega arith
      go false l = omega arith

  module _ (ns : List (List ℕ)) (t : all_tidy ns ≡ true) (p : ℕ) (only : (k : ℕ) → k < length ns → pack (get_or ns k []) ≡ key → p ≡ k) where
    pub found : p < length ns → pack (get_or ns p []) ≡ key → place_in ns w ≡ p
    found h e =
        let l = placed_below ns t p h e in
        sym (only (place_in ns w) l (placed-key ns t l))

    pub missed : (pack (get_or ns p []) ≡ key → ⊥) → ltb (place_in ns w) (length ns) ≡ false
    missed n = go (ltb (place_in ns w) (length ns)) refl
      where
        at : place_in ns w < length ns → ⊥
        at l =
            let e = placed-key ns t l in
            n (ap (λ (k : ℕ). pack (get_or ns k [])) (only (place_in ns w) l e) ∙ e)

        go : (b : Bool) → ltb (place_in ns w) (length ns) ≡ b → ltb (place_in ns w) (length ns) ≡ false
        go true q = absurd (at (ltb-true _ _ q))
        go false q = q

-- ---- the loop that makes a key: from the last byte on, the bytes are packed

pub lower-small : (b : ℕ) → b ≤ 255 → lower b ≤ 255
unfolding lower
lower-small b h = go (leb 65 b) (leb b 90) refl
  where
    go : (x y : Bool) → leb b 90 ≡ y → cond (x && y) (b + 32) b ≤ 255
    go true true e = let l = leb-true b 90 e in omega arith
    go true false e = h
    go false y e = h

lower-some : (b : ℕ) → 1 ≤ b → 1 ≤ lower b
unfolding lower
lower-some b h = go (leb 65 b && leb b 90)
  where
    go : (x : Bool) → 1 ≤ cond x (b + 32) b
    go true = omega arith
    go false = h

lower-none : lower 0 ≡ 0
unfolding lower
lower-none = refl

lower-at : (w : List ℕ) (j : ℕ) → get_or (map lower w) j 0 ≡ lower (get_or w j 0)
lower-at w j = ap (λ (d : ℕ). get_or (map lower w) j d) (sym lower-none) ∙ get_or-map lower w j 0

pub lower-bytes : (w : List ℕ) → Bytes w → Bytes (map lower w)
unfolding Bytes
lower-bytes w h j = rw (lower-at w j) (lower-small (get_or w j 0) (h j))

-- what is left of the name, and the key of what was packed
pub record Packed (w rest : List ℕ) (key : ℕ) : Type 0 where
  pub packed : List ℕ
  pub whole : w ≡ rest ++ packed
  pub is : key ≡ pack (map lower packed)

pub packed-begun : (w : List ℕ) → Packed w w 0
packed-begun w = record { packed = []; whole = sym (append-nil w); is = refl }

pub packed-on : (w rest more : List ℕ) (b key low : ℕ) → rest ≡ more ++ b ∷ [] → low ≡ lower b → Packed w rest key → Packed w more (256 * key + low)
packed-on w rest more b key low e l p =
    record {
      packed = b ∷ p.packed;
      whole = p.whole ∙ ap (λ (x : List ℕ). x ++ p.packed) e ∙ append_assoc more (b ∷ []) p.packed;
      is = let k = p.is in omega arith;
    }

pack-small : (k : ℕ) (t : List ℕ) → length t ≤ k → Bytes t → pack t < 256 ^ k
pack-small zero [] h g = omega arith
pack-small (suc k) [] h g = let r = pack-small k [] (omega arith) g in omega arith
pack-small zero (b ∷ t) h g = absurd (omega arith)
pack-small (suc k) (b ∷ t) h g =
    let l = head_byte b t g in
    let r = pack-small k t (omega arith) (tail-bytes b t g) in
    omega arith

last-bytes : (v w : List ℕ) → Bytes (v ++ w) → Bytes w
unfolding Bytes
last-bytes v w h j = rw (get_or-append-add v w j 0) at (h (length v + j))

-- six bytes packed leave room for one more
pub packed-fits : (w rest more : List ℕ) (b key : ℕ) → Bytes w → length w ≤ 7 → rest ≡ more ++ b ∷ [] → Packed w rest key → key < 281474976710656
packed-fits w rest more b key g h e p =
    let k = p.is in
    let m : length w ≡ length rest + length p.packed = ap length p.whole ∙ length-append rest p.packed in
    let n : length rest ≡ length more + 1 = ap length e ∙ length-append more (b ∷ []) in
    let s = pack-small 6 (map lower p.packed) (rw length-map (omega arith)) (lower-bytes p.packed (last-bytes rest p.packed (rw p.whole at g))) in
    omega arith

key-is : (v : List ℕ) → (length v ≡ 0 → ⊥) → length v ≤ 7 → nonzero v ≡ true → Some (pack v) ≡ key_of v
key-is [] e h n = absurd (e refl)
key-is (b ∷ v) e h n = rw (le-leb (suc (length v)) 7 h, n)

lower-nonzero : (w : List ℕ) → ((j : ℕ) → j < length w → get_or w j 0 ≡ 0 → ⊥) → nonzero (map lower w) ≡ true
lower-nonzero [] h = refl
lower-nonzero (b ∷ w) h =
    let g = h 0 (omega arith) in
    rw (le-leb 1 (lower b) (lower-some b (omega arith)), lower-nonzero w (λ j l. h (suc j) (omega arith)))

pub packed-ended : (w rest : List ℕ) (key : ℕ) → (length w ≡ 0 → ⊥) → length w ≤ 7 → ((j : ℕ) → j < length w → get_or w j 0 ≡ 0 → ⊥) → length rest ≡ 0 → Packed w rest key → Some key ≡ key_of (map lower w)
packed-ended w [] key e h n l p =
    let k : key ≡ pack (map lower w) = p.is ∙ ap (λ (x : List ℕ). pack (map lower x)) (sym p.whole) in
    rw k (key-is (map lower w) (rw length-map e) (rw length-map h) (lower-nonzero w n))
packed-ended w (b ∷ rest) key e h n l p = absurd (omega arith)

-- ---- what has no key

zeroed : (v : List ℕ) (j : ℕ) → j < length v → get_or v j 0 ≡ 0 → nonzero v ≡ false
zeroed [] j h e = absurd (omega arith)
zeroed (b ∷ v) zero h e = rw (lt-leb 1 b (omega arith))
zeroed (b ∷ v) (suc j) h e = rw (zeroed v j (omega arith) e) (and-false (leb 1 b))

unkeyed : (v : List ℕ) → keyable v ≡ false → key_of v ≡ None
unkeyed [] e = refl
unkeyed (b ∷ v) e = rw e

pub no-key-empty : (w : List ℕ) → length w ≡ 0 → key_of (map lower w) ≡ None
no-key-empty [] e = refl
no-key-empty (b ∷ w) e = absurd (omega arith)

pub no-key-long : (w : List ℕ) → 7 < length w → key_of (map lower w) ≡ None
no-key-long w h = unkeyed (map lower w) (rw (lt-leb (length (map lower w)) 7 (rw length-map h)))

pub no-key-zero : (w : List ℕ) (j : ℕ) → j < length w → get_or w j 0 ≡ 0 → key_of (map lower w) ≡ None
no-key-zero w j h e =
    unkeyed (map lower w)
    (rw (zeroed (map lower w) j (rw length-map h) (lower-at w j ∙ ap lower e ∙ lower-none)) (and-false (leb (length (map lower w)) 7)))
