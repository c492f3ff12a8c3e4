-- "a byte dropped under Q-4 is no hit, an ignored one is", in one equation: what `landed` meets are the watches at stored bytes, but for those at dropped ones.
use Prim.Native.Nat.{ℕ, zero, suc, ◌≤◌}
use mathlib.Core.Path.{◌≡◌, refl, sym, ◌∙◌, ap}
use mathlib.Core.Bool.{Bool, true, false, cond, not, ◌&&◌, ◌||◌}
use native.Mathlib.Omega.{arith}
use borrow.Author.Tests.{eqb-true}
use lib.Dec.{eqb}
use Rattle.word.specs.Word.{above}
use Rattle.bus.specs.Addresses.{dropped}
use Rattle.bus.specs.declared.state.Stretch.{Stretch}
use Rattle.entries.specs.Entries.{met_at, meets}
use Rattle.entries.specs.declared.Entry.{Entry}
use Rattle.watching.specs.Watched.{landed_byte, landed}

-- it meets watches alone
pub landed-kind : (p : Stretch) (m n a : ℕ) → (landed p m n a).kind ≡ 2
unfolding landed
landed-kind p m zero a = refl
landed-kind p m (suc zero) a = refl
landed-kind p m (suc (suc n)) a = go (dropped p m a)
  where
    go : (t : Bool) → (cond t (landed_byte p m (above a)) (met_at 2 (cond (dropped p m (above a)) 1 2) a)).kind ≡ 2
    go true = refl
    go false = refl

-- ---- tests: whether x is the first address and the second, and whether a store to the first, the second and x is dropped
first-only : (q d x : Bool) → (q ≡ true → x ≡ d) → (cond d false q) ≡ (q && not x)
first-only true d x f = ap (λ (t : Bool). cond t false true) (sym (f refl)) ∙ flip x
  where
    flip : (t : Bool) → cond t false true ≡ not t
    flip true = refl
    flip false = refl
first-only false true x f = refl
first-only false false x f = refl

either : (q r a b x : Bool) → (q ≡ true → x ≡ a) → (r ≡ true → x ≡ b) → cond a (cond b false r) (cond b q (q || r)) ≡ ((q || r) && not x)
either true true a b x f g = rw (← f refl, ← g refl) (go x)
  where
    go : (t : Bool) → cond t (cond t false true) (cond t true true) ≡ not t
    go true = refl
    go false = refl
either true false a b x f g = rw (← f refl) (go x b)
  where
    go : (t u : Bool) → cond t (cond u false false) (cond u true true) ≡ not t
    go true true = refl
    go true false = refl
    go false true = refl
    go false false = refl
either false true a b x f g = rw (← g refl) (go a x)
  where
    go : (u t : Bool) → cond u (cond t false true) (cond t false true) ≡ not t
    go true true = refl
    go true false = refl
    go false true = refl
    go false false = refl
either false false a b x f g = go a b
  where
    go : (t u : Bool) → cond t (cond u false false) (cond u false false) ≡ false
    go true true = refl
    go true false = refl
    go false true = refl
    go false false = refl

and_assoc : (k a b : Bool) → (k && (a && b)) ≡ ((k && a) && b)
and_assoc true a b = refl
and_assoc false a b = refl

or-false : (t : Bool) → (t || false) ≡ t
or-false true = refl
or-false false = refl

module _ (p : Stretch) (m a : ℕ) (e : Entry) where
  abbrev x : ℕ
  x = e.address

  abbrev k : Bool
  k = eqb e.kind 2

  same : (b : ℕ) → eqb x b ≡ true → dropped p m x ≡ dropped p m b
  same b q = ap (dropped p m) (eqb-true x b q)

  one-met : (d : Bool) → meets (met_at 2 (cond d 0 1) a) e ≡ (k && cond d false (eqb x a))
  one-met true = refl
  one-met false = ap (λ (t : Bool). k && t) (or-false (eqb x a))

  two-met : (d f : Bool) → meets (cond d (met_at 2 (cond f 0 1) (above a)) (met_at 2 (cond f 1 2) a)) e
      ≡ (k && cond d (cond f false (eqb x (above a))) (cond f (eqb x a) (eqb x a || eqb x (above a))))
  two-met true true = refl
  two-met true false = ap (λ (t : Bool). k && t) (or-false (eqb x (above a)))
  two-met false true = ap (λ (t : Bool). k && t) (or-false (eqb x a))
  two-met false false = refl

  pub hits : (n : ℕ) → n ≤ 2 → meets (landed p m n a) e ≡ (meets (met_at 2 n a) e && not (dropped p m e.address))
  unfolding landed
  hits zero h = none k (dropped p m x)
    where
      none : (t u : Bool) → (t && false) ≡ ((t && false) && not u)
      none true u = refl
      none false u = refl
  hits (suc zero) h =
      one-met (dropped p m a) ∙ ap (λ (t : Bool). k && t) (first-only (eqb x a) (dropped p m a) (dropped p m x) (same a))
      ∙ and_assoc k (eqb x a) (not (dropped p m x)) ∙ ap (λ (t : Bool). (k && t) && not (dropped p m x)) (sym (or-false (eqb x a)))
  hits (suc (suc zero)) h =
      two-met (dropped p m a) (dropped p m (above a))
      ∙ ap (λ (t : Bool). k && t) (either (eqb x a) (eqb x (above a)) (dropped p m a) (dropped p m (above a)) (dropped p m x) (same a) (same (above a)))
      ∙ and_assoc k (eqb x a || eqb x (above a)) (not (dropped p m x))
  hits (suc (suc (suc n))) h = absurd (omega arith)
