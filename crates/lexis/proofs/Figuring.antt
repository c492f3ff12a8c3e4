-- Digits, one after the other, and the number that they make.
use Prim.Native.Nat.{ℕ, suc, ◌+◌, ◌*◌, ◌<◌, ◌≤◌, min}
use mathlib.Core.Path.{◌≡◌, refl, sym, ap, ◌∙◌}
use mathlib.Core.Bool.{Bool, true, false, cond, ◌&&◌}
use mathlib.Core.List.{List, [], ◌∷◌}
use native.Mathlib.Omega.{arith}
use native.Mathlib.Nat.{mul-le-mul_right, zero-add, add-zero}
use borrow.Author.Tests.{ltb-true, ltb-false, lt-ltb, le-ltb, lt-leb, leb-true, leb-false}
use lib.Dec.{eqb, leb, ltb}
use lib.ListN.{length, get_or, get_or-eq_default}
use Rattle.std.specs.Prelude.{Option, Some, None, Result, Err}
use Rattle.letters.specs.Letters.{lower, hex_value}
use Rattle.lexis.specs.Numbers.{worth, grouped, digits, value_in, most, valued_of, unsigned_in, base_by, unsigned_of}
use Rattle.lexis.specs.Code.{with_figure, longer_of, on_from, gone_on, no_figures, figures_of, judged_of}
use Rattle.lexis.specs.declared.numbers.Figures.{Figures}
use Rattle.lexis.specs.declared.numbers.Value.{Value}
use Rattle.lexis.specs.declared.numbers.Fault.{Fault}
use Rattle.lexis.specs.declared.numbers.Fault.TheVariants.{Bad}

-- two numbers that are equal as far as 65,536 stay so when digits follow
module _ (base : ℕ) (h : 1 ≤ base) where
  capped : (a b d : ℕ) → min 65536 a ≡ min 65536 b → min 65536 (a * base + d) ≡ min 65536 (b * base + d)
  capped a b d e = go (ltb a 65536) refl
    where
      go : (t : Bool) → ltb a 65536 ≡ t → min 65536 (a * base + d) ≡ min 65536 (b * base + d)
      go true q = let l = ltb-true a 65536 q in let s : a ≡ b = omega (arith, e) in rw s
      go false q =
          let l = ltb-false a 65536 q in
          let m : 65536 ≤ b = omega (arith, e) in
          omega (arith, h, mul-le-mul_right base l, mul-le-mul_right base m)

  same-value : (a b : ℕ) (ds : List ℕ) → min 65536 a ≡ min 65536 b → min 65536 (value_in base a ds) ≡ min 65536 (value_in base b ds)
  same-value a b [] e = e
  same-value a b (d ∷ ds) e = same-value (a * base + d) (b * base + d) ds (capped a b d e)

-- a byte has at most eight digits, so that nine and more are alike
most-few : (base : ℕ) → most base ≤ 8
unfolding most
most-few base = go (eqb base 2) (eqb base 16)
  where
    go : (s t : Bool) → cond s 8 (cond t 2 3) ≤ 8
    go true t = omega arith
    go false true = omega arith
    go false false = omega arith

over-few : (m n : ℕ) → m ≤ 8 → ltb m (min 9 n) ≡ ltb m n
over-few m n h = go (ltb m n) refl
  where
    go : (t : Bool) → ltb m n ≡ t → ltb m (min 9 n) ≡ ltb m n
    go true q = let l = ltb-true m n q in lt-ltb m (min 9 n) (omega arith) ∙ sym q
    go false q = let l = ltb-false m n q in le-ltb m (min 9 n) (omega arith) ∙ sym q

valued_same : (base v n : ℕ) → valued_of base (min 65536 v) (min 9 n) ≡ valued_of base v n
unfolding valued_of
valued_same base v n = go (leb v 65535) refl
  where
    go : (t : Bool) → leb v 65535 ≡ t → valued_of base (min 65536 v) (min 9 n) ≡ valued_of base v n
    go true q =
        let l = leb-true v 65535 q in
        let e : min 65536 v ≡ v = omega arith in
        rw (e, over-few (most base) n (most-few base))
    go false q =
        let l = leb-false v 65535 q in
        rw (lt-leb (min 65536 v) 65535 (omega arith), q)

valued_alike : (base v w m n : ℕ) → min 65536 v ≡ min 65536 w → min 9 m ≡ min 9 n → valued_of base v m ≡ valued_of base w n
valued_alike base v w m n e f = sym (valued_same base v m) ∙ rw (e, f) (valued_same base w n)

-- what is made of the digits read so far and of the bytes to come
module _ (base : ℕ) (h : 1 ≤ base) (k : base ≤ 16) where
  abbrev said : Figures → List ℕ → Result Value Fault
  said d l = cond (grouped base d.digit l) (valued_of base (value_in base d.value (digits l)) (d.count + length (digits l))) (Err Bad)

  judges-on : (d : Figures) (l : List ℕ) → judged_of base (gone_on base d l) ≡ said d l
  unfolding judged_of longer_of
  judges-on d [] = rw (add-zero d.count)
  judges-on d (b ∷ bs) = go (λ e. judges-on e bs) (eqb b 95) (hex_value b)
    where
      dashed : ((e : Figures) → judged_of base (gone_on base e bs) ≡ said e bs) → (t : Bool)
          → judged_of base (on_from (cond t (Some (record { value = d.value; count = d.count; digit = false })) None) (λ e. gone_on base e bs))
          ≡ cond (t && grouped base false bs) (valued_of base (value_in base d.value (digits bs)) (d.count + length (digits bs))) (Err Bad)
      dashed r true = r (record { value = d.value; count = d.count; digit = false })
      dashed r false = refl

      figured : ((e : Figures) → judged_of base (gone_on base e bs) ≡ said e bs) → (x : ℕ) (t : Bool)
          → judged_of base (on_from (cond t (Some (record { value = min 65536 (d.value * base + x); count = min 9 (d.count + 1); digit = true })) None) (λ e. gone_on base e bs))
          ≡ cond (t && grouped base true bs) (valued_of base (value_in base (d.value * base + x) (digits bs)) (d.count + suc (length (digits bs)))) (Err Bad)
      figured r x false = refl
      figured r x true =
          r (record { value = min 65536 (d.value * base + x); count = min 9 (d.count + 1); digit = true })
          ∙ ap (λ (v : Result Value Fault). cond (grouped base true bs) v (Err Bad))
          (valued_alike base _ _ _ _ (same-value base h (min 65536 (d.value * base + x)) (d.value * base + x) (digits bs) (omega arith)) (omega arith))

      go : ((e : Figures) → judged_of base (gone_on base e bs) ≡ said e bs) → (t : Bool) (x : Option ℕ)
          → judged_of base (on_from (cond t (cond d.digit (Some (record { value = d.value; count = d.count; digit = false })) None) (with_figure base d x)) (λ e. gone_on base e bs))
          ≡ cond (cond t (d.digit && grouped base false bs) (ltb (worth x) base && grouped base true bs))
          (valued_of base (value_in base d.value (cond t (digits bs) (worth x ∷ digits bs))) (d.count + length (cond t (digits bs) (worth x ∷ digits bs)))) (Err Bad)
      go r true x = dashed r d.digit
      go r false None = rw (le-ltb 16 base k)
      go r false (Some x) = figured r x (ltb x base)

-- what is made of the digits is what they say
pub judges : (base : ℕ) (l : List ℕ) → 1 ≤ base → base ≤ 16 → judged_of base (figures_of base l) ≡ unsigned_in base l
unfolding unsigned_in
judges base l h k = rw (zero-add (length (digits l))) at (judges-on base h k no_figures l)

-- a word of fewer than two bytes names no base
pub short-word : (w : List ℕ) → length w < 2 → unsigned_in 10 w ≡ unsigned_of w
unfolding base_by lower
short-word w h = let e : get_or w 1 0 ≡ 0 = get_or-eq_default w 0 (omega arith) in sym (rw (e, alike (eqb (get_or w 0 0) 48)))
  where
    alike : (t : Bool) → cond {A = ℕ} t 10 10 ≡ 10
    alike true = refl
    alike false = refl
