-- Q-4's laws of a store: the protected addresses stay what they are, and each RAM byte that they protect stays as it was.
use mathlib.Core.Path.{◌≡◌, refl, sym, ◌∙◌, ap, subst}
use mathlib.Core.Bool.{Bool, true, false, ◌&&◌}
use mathlib.Core.List.{List}
use Prim.Native.Nat.{ℕ, ◌<◌}
use native.Mathlib.Omega.{arith}
use borrow.Author.Tests.{leb-true}
use lib.Dec.{T, ltb, leb}
use lib.ListN.{length, set, length-set}
use lib.Seq.{get_or-set_other}
use native.Mathlib.Decide.{ℕ_discrete}
use Rattle.word.specs.Word.{above, low_at, high_at}
use Rattle.word.specs.Memory.{byte_in}
use Rattle.bus.specs.Addresses.{dropped, Bus, put_byte, put_word}
use Rattle.bus.specs.Protected.{Spares, Sparing}
use Rattle.bus.specs.declared.state.Stretch.{Stretch}
use Rattle.bus.proofs.Kept.{picked}

-- "first above last means none": then no store is dropped
pub none_dropped : (p : Stretch) (n a : ℕ) → p.last < p.first → dropped p n a ≡ false
unfolding dropped
none_dropped p n a h = go (leb p.first a) (leb a p.last) refl refl (ltb a n)
  where
    go : (s t : Bool) → leb p.first a ≡ s → leb a p.last ≡ t → (u : Bool) → (u && (s && t)) ≡ false
    go s t e f false = refl
    go false t e f true = refl
    go true false e f true = refl
    go true true e f true = absurd (omega (arith, leb-true p.first a e, leb-true a p.last f, h))

spares-same : (p : Stretch) (m : List ℕ) → Spares p m m
spares-same p m = record { long = refl; bytes = λ a d. refl }

spares-on : {p : Stretch} {l m n : List ℕ} → Spares p l m → Spares p m n → Spares p l n
spares-on {p} {l} {m} {n} x y =
    record {
      long = y.long ∙ x.long;
      bytes = λ a d. y.bytes a (ap (λ (k : ℕ). dropped p k a) x.long ∙ d) ∙ x.bytes a d;
    }

pub sparing-same : (p : Stretch) (m : List ℕ) → Sparing p m p m
sparing-same p m = record { stretch = refl; ram = spares-same p m }

pub sparing-on : {p q r : Stretch} {l m n : List ℕ} → Sparing p l q m → Sparing q m r n → Sparing p l r n
sparing-on {p} {q} {r} {l} {m} {n} x y =
    record { stretch = y.stretch ∙ x.stretch; ram = spares-on x.ram (subst (λ (z : Stretch). Spares z m n) x.stretch y.ram) }

-- what a store keeps of board and memory
abbrev pub SparesBus : Bus → Bus → Type 0
SparesBus u v = Sparing u.board.stretch u.ram v.board.stretch v.ram

-- a byte that is not dropped is none of the protected ones
set-spares : (p : Stretch) (m : List ℕ) (a x : ℕ) → dropped p (length m) a ≡ false → Spares p m (set m a x)
set-spares p m a x e = record { long = length-set m a x; bytes = λ i d. other i d (ℕ_discrete i a) }
  where
    other : (i : ℕ) → dropped p (length m) i ≡ true → Dec (i ≡ a) → byte_in (set m a x) i ≡ byte_in m i
    other i d (yes q) = absurd (subst T (sym d ∙ ap (dropped p (length m)) q ∙ e) tt)
    other i d (no q) = get_or-set_other m a i x 0 q

pub byte-spares : (u : Bus) (a x : ℕ) → SparesBus u (put_byte u a x)
unfolding put_byte
byte-spares u a x = go (dropped u.board.stretch (length u.ram) a) refl
  where
    go : (t : Bool) → dropped u.board.stretch (length u.ram) a ≡ t → SparesBus u (put_byte u a x)
    go true e = simp e (sparing-same u.board.stretch u.ram)
    go false e =
        simp e
        (picked (SparesBus u) (ltb a (length u.ram)) (record { stretch = refl; ram = set-spares u.board.stretch u.ram a x e })
        (sparing-same u.board.stretch u.ram))

pub word-spares : (u : Bus) (a w : ℕ) → SparesBus u (put_word u a w)
unfolding put_word
word-spares u a w = sparing-on (byte-spares u a (low_at 8 w)) (byte-spares (put_byte u a (low_at 8 w)) (above a) (high_at 8 w))
