-- What is left to the last arm of a match on a number.
use mathlib.Core.Path.{◌≡◌, refl, sym}
use mathlib.Core.Bool.{Bool, true, false}
use mathlib.Core.List.{List}
use Prim.Native.Nat.{ℕ, zero, suc, ◌+◌, ◌≤◌}
use lib.Arith.{lt_of_le-ne}
use lib.Dec.{ltb}
use lib.ListN.{get_or, length, get_or-eq_default}
use native.Mathlib.Omega.{arith}
use borrow.Author.Tests.{ltb-true, ltb-false}
use Rattle.isa.specs.Opcode.{images}
use Rattle.letters.proofs.Lists.{ranged}

-- what the last arm of a match on k is told, after an arm for each of n numbers from m on
abbrev Others : ℕ → ℕ → ℕ → Type 0
Others m k zero = Unit {0}
Others m k (suc n) = Others m k n × (k ≡ m + n → ⊥)

beyond : (m k n : ℕ) → m ≤ k → Others m k n → m + n ≤ k
beyond m k zero h r = omega arith
beyond m k (suc n) h r =
    let l = beyond m k n h r.0 in
    let g = lt_of_le-ne l (λ e. r.1 (sym e)) in
    omega arith

-- a list whose n entries from m on, and no others, are told by the arms before
pub outside : {A : Type 0} (d : A) (l : List A) (m k n : ℕ) → length l ≡ m + n → images (λ k. get_or l k d) 0 m ≡ images (λ k. d) 0 m → Others m k n → d ≡ get_or l k d
outside d l m k n e first r = go (ltb k m) refl
  where
    go : (b : Bool) → ltb k m ≡ b → d ≡ get_or l k d
    go true q = let h = ltb-true k m q in sym (ranged (λ k. get_or l k d) d 0 m first k (omega arith) (omega arith))
    go false q = sym (get_or-eq_default l d (rw e (beyond m k n (ltb-false k m q) r)))
