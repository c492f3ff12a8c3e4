-- Tables of heads: what each head is, and that lines looked through from the later one of two heads give the place that all lines give.
use Prim.Native.Nat.{ℕ, ◌+◌, ◌-◌, ◌/◌, ◌%◌, ◌≤◌, ◌<◌, max}
use mathlib.Core.Path.{◌≡◌, refl, sym, ap, ◌∙◌}
use mathlib.Core.Bool.{Bool, true, false, cond}
use mathlib.Core.List.{List, [], ◌∷◌, ◌++◌}
use native.Mathlib.Omega.{arith}
use native.Mathlib.Nat.{mod-lt}
use borrow.Author.Tests.{eqb-true, eqb-false, eq-eqb, ne_eqb, ltb-true, ltb-false}
use lib.Dec.{eqb, ltb}
use lib.ListN.{length, get_or, set, take, drop, replicate, length-set, length-append, length-replicate, get_or-replicate}
use lib.Seq.{get_or-set_same, get_or-set_other, take-append_seam, drop-append_seam}
use Rattle.manifests.specs.Manifests.{lines, is_number, number_of, place_among, place_of, by_number, held_of}
use Rattle.manifests.specs.Code.{key_of, first_line, front_of, line_end, place_from, noted, noted_all, table_of, heads_of, head_in, later_of, head_by, by_heads, held_from, HeadsOf}
use Rattle.std.specs.Prelude.{Option, Some, None}
use Rattle.manifests.specs.declared.fronts.Front.{Front}
use Rattle.manifests.proofs.Lined.{LineAt, over-lines, one_line, no_line}
use Rattle.manifests.proofs.Keys.{key-matches, look-past, key-got, got-end}

-- ---- the table's length
pub noted-length : (size at : ℕ) (k : Option ℕ) (t : List ℕ) → length (noted size at k t) ≡ length t
unfolding noted
noted-length size at (Some n) t = go (eqb (get_or t (n % length t) 0) size)
  where
    go : (b : Bool) → length (cond b (set t (n % length t) at) t) ≡ length t
    go true = length-set t (n % length t) at
    go false = refl
noted-length size at None t = refl

noted-all-length : (size at : ℕ) (ls : List (List ℕ)) (t : List ℕ) → length (noted_all size at ls t) ≡ length t
unfolding noted_all
noted-all-length size at [] t = refl
noted-all-length size at (l ∷ ls) t = noted-all-length size (at + (length l + 1)) ls _ ∙ noted-length _ _ (key_of l) t

pub table-length : (k : ℕ) (s : List ℕ) → length (table_of k s) ≡ k
unfolding table_of
table-length k s = noted-all-length (length s) 0 (lines s) (replicate k (length s)) ∙ length-replicate k (length s)

pub heads-length : (k : ℕ) (s : List ℕ) → length (heads_of k s) ≡ k
unfolding heads_of
heads-length k s =
    length-append (table_of (k / 2) s) (table_of (k - k / 2) s) ∙ omega (arith, table-length (k / 2) s, table-length (k - k / 2) s)

-- the heads that `index` leaves are the manifest's
pub heads-of : (s t : List ℕ) (k : ℕ) → t ≡ heads_of k s → HeadsOf s t
heads-of s t k e = e ∙ ap (λ (n : ℕ). heads_of n s) (sym (ap length e ∙ heads-length k s))

nothing : (t : List ℕ) → length t ≡ 0 → t ≡ []
nothing [] e = refl
nothing (x ∷ t) e = absurd (omega arith)

-- an empty table is any manifest's
pub no-heads : (s : List ℕ) → HeadsOf s []
no-heads s = sym (nothing (heads_of 0 s) (heads-length 0 s))

-- ---- what each head is
-- a number has the remainder m of k
abbrev pub leaves : ℕ → ℕ → Option ℕ → Bool
leaves k m (Some n) = eqb (n % k) m
leaves k m None = false

-- where the first line begins whose number does, of lines the first of which begins at a place
unfoldable pub first_head : ℕ → ℕ → ℕ → ℕ → List (List ℕ) → ℕ
first_head k m none at [] = none
first_head k m none at (l ∷ ls) = cond (leaves k m (key_of l)) at (first_head k m none (at + (length l + 1)) ls)

-- one line noted: the head of a remainder is the line, or stays
module _ (size at m : ℕ) (h : at < size) where
  -- the head as it is in the end, by what later lines would make it
  abbrev kept : ℕ → ℕ → ℕ
  kept later x = cond (eqb x size) later x

  after : (k : Option ℕ) (t : List ℕ) (later : ℕ) → m < length t
      → kept later (get_or (noted size at k t) m 0) ≡ kept (cond (leaves (length t) m k) at later) (get_or t m 0)
  unfolding noted
  after None t later g = refl
  after (Some n) t later g = go (n % length t) (eqb (get_or t (n % length t) 0) size) refl (eqb (n % length t) m) refl
    where
      go : (j : ℕ) (b : Bool) → eqb (get_or t j 0) size ≡ b → (u : Bool) → eqb j m ≡ u
          → kept later (get_or (cond b (set t j at) t) m 0) ≡ kept (cond u at later) (get_or t m 0)
      go j true p true q =
          let e : m ≡ j = sym (eqb-true j m q) in
          let a : get_or (set t j at) m 0 ≡ at = ap (λ (i : ℕ). get_or (set t j at) i 0) e ∙ get_or-set_same t j at 0 (omega (arith, e)) in
          let w : eqb (get_or t m 0) size ≡ true = ap (λ (i : ℕ). eqb (get_or t i 0) size) e ∙ p in
          rw (a, w, ne_eqb at size (λ z. omega arith))
      go j true p false q = ap (kept later) (get_or-set_other t j m at 0 (λ z. eqb-false j m q (sym z)))
      go j false p true q =
          let e : m ≡ j = sym (eqb-true j m q) in
          let w : eqb (get_or t m 0) size ≡ false = ap (λ (i : ℕ). eqb (get_or t i 0) size) e ∙ p in
          rw w
      go j false p false q = refl

module _ (s : List ℕ) (m : ℕ) where
  abbrev Table : ℕ → List (List ℕ) → Type 0
  Table at ls =
      (t : List ℕ) → m < length t
      → get_or (noted_all (length s) at ls t) m 0 ≡ cond (eqb (get_or t m 0) (length s)) (first_head (length t) m (length s) at ls) (get_or t m 0)

  none-noted : (at : ℕ) → length s ≤ at → Table at []
  unfolding noted_all first_head
  none-noted at h t g = go (eqb (get_or t m 0) (length s)) refl
    where
      go : (b : Bool) → eqb (get_or t m 0) (length s) ≡ b → get_or t m 0 ≡ cond b (length s) (get_or t m 0)
      go true p = eqb-true (get_or t m 0) (length s) p
      go false p = refl

  line-noted : (at : ℕ) (l : List ℕ) → LineAt s at l → Table (at + (length l + 1)) (lines (drop (at + (length l + 1)) s))
      → Table at (l ∷ lines (drop (at + (length l + 1)) s))
  unfolding noted_all first_head
  line-noted at l w r t g =
      let n = noted-length (length s) at (key_of l) t in
      r (noted (length s) at (key_of l) t) (omega (arith, g, n))
      ∙ ap (λ (k : ℕ). cond (eqb (get_or (noted (length s) at (key_of l) t) m 0) (length s)) (first_head k m (length s) (at + (length l + 1)) (lines (drop (at + (length l + 1)) s))) (get_or (noted (length s) at (key_of l) t) m 0)) n
      ∙ after (length s) at m w.begins (key_of l) t (first_head (length t) m (length s) (at + (length l + 1)) (lines (drop (at + (length l + 1)) s))) g

  pub head_at : (k : ℕ) → m < k → get_or (table_of k s) m 0 ≡ first_head k m (length s) 0 (lines s)
  unfolding table_of
  head_at k h =
      let t : List ℕ = replicate k (length s) in
      let n : length t ≡ k = length-replicate k (length s) in
      over-lines s Table none-noted line-noted 0 t (omega (arith, h, n))
      ∙ rw (get_or-replicate k m (length s) 0 h, eq-eqb (length s) (length s) refl, n)

-- ---- a look-up that begins at a head
module _ (s : List ℕ) (k n : ℕ) where
  -- a line with the number has its remainder
  passes : (x : Option ℕ) → leaves k (n % k) x ≡ false → is_number n x ≡ false
  passes (Some m) e = ne_eqb m n (λ z. eqb-false (m % k) (n % k) e (ap (λ (i : ℕ). i % k) z))
  passes None e = refl

  abbrev Begun : ℕ → List (List ℕ) → Type 0
  Begun at ls = place_from n s (first_head k (n % k) (length s) at ls) ≡ place_among n at ls

  none-begun : (at : ℕ) → length s ≤ at → Begun at []
  unfolding first_head place_among
  none-begun at h = sym (look-past s (length s) n (omega arith))

  line-begun : (at : ℕ) (l : List ℕ) → LineAt s at l → Begun (at + (length l + 1)) (lines (drop (at + (length l + 1)) s))
      → Begun at (l ∷ lines (drop (at + (length l + 1)) s))
  unfolding first_head place_among
  line-begun at l w r = go (leaves k (n % k) (key_of l)) refl
    where
      go : (t : Bool) → leaves k (n % k) (key_of l) ≡ t
          → place_from n s (cond t at (first_head k (n % k) (length s) (at + (length l + 1)) (lines (drop (at + (length l + 1)) s))))
          ≡ place_among n at (l ∷ lines (drop (at + (length l + 1)) s))
      go true e = ap (place_among n at) w.first
      go false e = r ∙ sym (rw (key-matches l n, passes (key_of l) e))

  pub from-head : place_from n s (first_head k (n % k) (length s) 0 (lines s)) ≡ place_of n s
  from-head = over-lines s Begun none-begun line-begun 0

pub no-head : (t : List ℕ) (n : ℕ) → length t ≡ 0 → 0 ≡ head_in t n
unfolding head_in
no-head [] n e = refl
no-head (x ∷ t) n e = absurd (omega arith)

-- a look-up that begins at a table's head gives the manifest's place
table-headed : (s t : List ℕ) (n : ℕ) → t ≡ table_of (length t) s → place_from n s (head_in t n) ≡ place_of n s
unfolding head_in
table-headed s [] n e = refl
table-headed s (x ∷ t) n e =
    ap (λ (u : List ℕ). place_from n s (get_or u (n % length (x ∷ t)) 0)) e
    ∙ ap (place_from n s) (head_at s (n % length (x ∷ t)) (length (x ∷ t)) (mod-lt n (omega arith)))
    ∙ from-head s (length (x ∷ t)) n

-- so at the later one of two
later-headed : (s : List ℕ) (n a b : ℕ) → place_from n s a ≡ place_of n s → place_from n s b ≡ place_of n s → place_from n s (later_of a b) ≡ place_of n s
later-headed s n a b p q = go (ltb a b)
  where
    go : (t : Bool) → place_from n s (cond t b a) ≡ place_of n s
    go true = q
    go false = p

-- the two tables of a manifest's heads
module _ (s t : List ℕ) (e : HeadsOf s t) where
  abbrev first : List ℕ
  first = table_of (length t / 2) s

  abbrev rest : List ℕ
  rest = table_of (length t - length t / 2) s

  first-half : take (length t / 2) t ≡ first
  unfolding heads_of
  first-half = ap (take (length t / 2)) e ∙ ap (λ (k : ℕ). take k (first ++ rest)) (sym (table-length (length t / 2) s)) ∙ take-append_seam first rest

  second-half : drop (length t / 2) t ≡ rest
  unfolding heads_of
  second-half = ap (drop (length t / 2)) e ∙ ap (λ (k : ℕ). drop k (first ++ rest)) (sym (table-length (length t / 2) s)) ∙ drop-append_seam first rest

  own : (u : List ℕ) (k : ℕ) → u ≡ table_of k s → u ≡ table_of (length u) s
  own u k q = q ∙ ap (λ (i : ℕ). table_of i s) (sym (ap length q ∙ table-length k s))

  -- with a manifest's heads a look-up gives the manifest's place
  pub headed : (n : ℕ) → place_from n s (head_by t n) ≡ place_of n s
  unfolding head_by
  headed n =
      later-headed s n (head_in (take (length t / 2) t) n) (head_in (drop (length t / 2) t) n)
      (table-headed s (take (length t / 2) t) n (own (take (length t / 2) t) (length t / 2) first-half))
      (table-headed s (drop (length t / 2) t) n (own (drop (length t / 2) t) (length t - length t / 2) second-half))

-- and a pen is found where it is held
pub headed-held : (line today heads last more : List ℕ) → HeadsOf today heads → HeadsOf last more
    → held_from line today heads last more ≡ held_of line today last
unfolding held_from held_of
headed-held line today heads last more e f = go (number_of line)
  where
    go : (k : Option ℕ) → by_heads k today heads last more ≡ by_number k today last
    go (Some n) = rw (headed today heads e n, headed last more f n)
    go None = refl

-- the later of two heads
pub by-halves : (t u v : List ℕ) (n a b r : ℕ) → u ≡ take (length t / 2) t → v ≡ drop (length t / 2) t → a ≡ head_in u n → b ≡ head_in v n → r ≡ max a b
    → r ≡ head_by t n
unfolding head_by
by-halves t u v n a b r x y p q e =
    let f = p ∙ ap (λ (w : List ℕ). head_in w n) x in
    let g = q ∙ ap (λ (w : List ℕ). head_in w n) y in
    e ∙ rw (f, g) (go (head_in (take (length t / 2) t) n) (head_in (drop (length t / 2) t) n))
  where
    go : (a b : ℕ) → max a b ≡ cond (ltb a b) b a
    go a b = here (ltb a b) refl
      where
        here : (s : Bool) → ltb a b ≡ s → max a b ≡ cond s b a
        here true e = omega (arith, ltb-true a b e)
        here false e = omega (arith, ltb-false a b e)

-- two tables, of the two parts in which the code lends a slice
pub two-tables : (s u a b : List ℕ) (k m : ℕ) → k ≡ length u / 2 → k + m ≡ length u → a ≡ table_of k s → b ≡ table_of m s → a ++ b ≡ heads_of (length u) s
unfolding heads_of
two-tables s u a b k m p q e f = let n : m ≡ length u - length u / 2 = omega (arith, p, q) in rw (e, f, p, n)

-- ---- the table, line by line
pub noted-none : (size at : ℕ) (k : Option ℕ) (t : List ℕ) → length t ≡ 0 → t ≡ noted size at k t
noted-none size at k t e = nothing t e ∙ sym (nothing (noted size at k t) (noted-length size at k t ∙ e))

-- the lines from a place on, noted
abbrev pub noted_from : List ℕ → ℕ → List ℕ → List ℕ
noted_from s at t = noted_all (length s) at (lines (drop at s)) t

pub heads-begin : (s u : List ℕ) → (length (replicate (length u) (length s)) ≡ length u) × (noted_from s 0 (replicate (length u) (length s)) ≡ table_of (length u) s)
unfolding table_of
heads-begin s u = (length-replicate (length u) (length s), refl)

pub noted-on : (s t : List ℕ) (at : ℕ) (f : Front) (end : ℕ) → f ≡ front_of (take (length s - at) (drop at s)) → at < length s
    → end ≡ line_end s (at + f.read) → noted_from s (end + 1) (noted (length s) at f.number t) ≡ noted_from s at t
unfolding noted_all
noted-on s t at f end p h q =
    let a : at + (length (first_line (drop at s)) + 1) ≡ end + 1 = omega (arith, q, got-end s at f p) in
    sym
    (ap (λ (ls : List (List ℕ)). noted_all (length s) at ls t) (one_line s at h)
    ∙ ap (λ (i : ℕ). noted_from s i (noted (length s) at (key_of (first_line (drop at s))) t)) a
    ∙ ap (λ (k : Option ℕ). noted_from s (end + 1) (noted (length s) at k t)) (sym (key-got s at f p)))

pub noted-past : (s t : List ℕ) (at : ℕ) → length s ≤ at → t ≡ noted_from s at t
unfolding noted_all
noted-past s t at h = sym (rw (no_line s at h))
