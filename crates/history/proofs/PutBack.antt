-- Old bytes put back give the memory before; and what a write of no, one or two bytes touches.
use Prim.Native.Nat.{ℕ, suc, ◌<◌}
use mathlib.Core.Path.{◌≡◌, refl, ◌∙◌}
use mathlib.Core.List.{List}
use native.Mathlib.Decide.{ℕ_discrete}
use native.Mathlib.Omega.{arith}
use lib.ListN.{length, get_or, set, length-set}
use lib.Seq.{ext_get_or, get_or-set_same, get_or-set_other}
use Rattle.word.specs.Word.{above}
use Rattle.history.specs.Undo.{Touched}

patch : (l m : List ℕ) (i k : ℕ) → k < length l → ((k ≡ i → ⊥) → get_or l k 0 ≡ get_or m k 0) → get_or (set l i (get_or m i 0)) k 0 ≡ get_or m k 0
patch l m i k h e = go (ℕ_discrete k i)
  where
    go : Dec (k ≡ i) → get_or (set l i (get_or m i 0)) k 0 ≡ get_or m k 0
    go (yes p) = rw p (get_or-set_same l i (get_or m i 0) 0 (rw p at h))
    go (no q) = get_or-set_other l i k (get_or m i 0) 0 q ∙ e q

module _ (a : ℕ) (m m' : List ℕ) where
  pub undone-none : Touched 0 a m m' → m' ≡ m
  undone-none t = ext_get_or 0 m' m t.same_length (λ k h. t.elsewhere k (λ z. omega arith) (λ z. omega arith))

  pub undone-one : Touched 1 a m m' → set m' a (get_or m a 0) ≡ m
  undone-one t =
      ext_get_or 0 _ m (simp length-set t.same_length)
      (λ k h. patch m' m a k (rw length-set at h) (λ q. t.elsewhere k (λ _. q) (λ z. omega arith)))

pub undone-two : (n a : ℕ) (m m' : List ℕ) → Touched (suc (suc n)) a m m' → set (set m' a (get_or m a 0)) (above a) (get_or m (above a) 0) ≡ m
undone-two n a m m' t =
    ext_get_or 0 _ m (simp length-set t.same_length)
    (λ k h. patch (set m' a (get_or m a 0)) m (above a) k (rw length-set at h)
    (λ q. patch m' m a k (simp length-set at h) (λ r. t.elsewhere k (λ _. r) (λ _. q))))

pub touched_none : (a : ℕ) (m : List ℕ) → Touched 0 a m m
touched_none a m = record { same_length = refl; elsewhere = λ k p q. refl }

pub touched-one : (a v : ℕ) (m : List ℕ) → Touched 1 a m (set m a v)
touched-one a v m = record { same_length = length-set m a v; elsewhere = λ k p q. get_or-set_other m a k v 0 (p (omega arith)) }

pub touched-two : (a v w : ℕ) (m : List ℕ) → Touched 2 a m (set (set m a v) (above a) w)
touched-two a v w m =
    record {
      same_length = simp length-set;
      elsewhere = λ k p q. get_or-set_other (set m a v) (above a) k w 0 (q (omega arith)) ∙ get_or-set_other m a k v 0 (p (omega arith));
    }
