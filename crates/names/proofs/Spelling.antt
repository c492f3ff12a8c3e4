-- What a caller may know of the names of registers and CSRs: they are short words of small letters and digits, and each names its own number.
use mathlib.Core.Path.{◌≡◌, refl, ap}
use mathlib.Core.Bool.{Bool, true, false, cond, ◌&&◌, ◌||◌}
use mathlib.Core.List.{List, [], ◌∷◌, map}
use Rattle.std.specs.Prelude.{Some, None}
use Prim.Native.Nat.{ℕ, ◌<◌, ◌≤◌}
use native.Mathlib.Omega.{arith}
use borrow.Author.Tests.{leb-true, ltb-true}
use lib.Dec.{leb, ltb}
use lib.ListN.{length, get_or}
use Rattle.letters.specs.Lists.{images}
use Rattle.letters.proofs.Lists.{agree, ranged}
use Rattle.names.specs.Names.{lower, place_in, register_names, fixed_names, fixed_numbers, csr_names, register_name, csr_name, reg_named, csr_named, reg_numbered, reg_fixed, csr_numbered}
use Rattle.names.specs.declared.register.Reg.{Reg}
use Rattle.names.specs.declared.register.Csr.{Csr}
use Rattle.names.proofs.Keyed.{left, right}

-- a small letter or a digit
unfoldable pub plain : ℕ → Bool
plain b = (leb 97 b && leb b 122) || (leb 48 b && leb b 57)

abbrev pub all_plain : List ℕ → Bool
all_plain [] = true
all_plain (b ∷ bs) = plain b && all_plain bs

-- a canonical name: at most n bytes, all plain
abbrev pub fine : ℕ → List ℕ → Bool
fine n name = leb (length name) n && all_plain name

module _ (limit : ℕ) (name : ℕ → List ℕ) (n : ℕ) (test : images (λ k. fine limit (name k)) 0 n ≡ images (λ k. true) 0 n) (k : ℕ) (h : k < n) where
  pub short : length (name k) ≤ limit
  short = leb-true _ _ (left (leb (length (name k)) limit) (all_plain (name k)) (agree false (λ k. fine limit (name k)) (λ k. true) n test k h))

  pub whole : all_plain (name k) ≡ true
  whole = right (leb (length (name k)) limit) (all_plain (name k)) (agree false (λ k. fine limit (name k)) (λ k. true) n test k h)

registers-fine : images (λ k. fine 3 (register_name k)) 0 16 ≡ images (λ k. true) 0 16
unfolding plain
registers-fine = refl

csrs-fine : images (λ k. fine 5 (csr_name k)) 0 16 ≡ images (λ k. true) 0 16
unfolding plain
csrs-fine = refl

pub register-short : (k : ℕ) → k < 16 → length (register_name k) ≤ 3
register-short = short 3 register_name 16 registers-fine

pub register-plain : (k : ℕ) → k < 16 → all_plain (register_name k) ≡ true
register-plain = whole 3 register_name 16 registers-fine

pub csr-short : (k : ℕ) → k < 16 → length (csr_name k) ≤ 5
csr-short = short 5 csr_name 16 csrs-fine

pub csr-plain : (k : ℕ) → k < 16 → all_plain (csr_name k) ≡ true
csr-plain = whole 5 csr_name 16 csrs-fine

registers-some : images (λ k. leb 1 (length (register_name k)) && leb 1 (length (csr_name k))) 0 16 ≡ images (λ k. true) 0 16
registers-some = refl

pub register-some : (k : ℕ) → k < 16 → 1 ≤ length (register_name k)
register-some k h = leb-true _ _ (left _ _ (agree false (λ k. leb 1 (length (register_name k)) && leb 1 (length (csr_name k))) (λ k. true) 16 registers-some k h))

pub csr-some : (k : ℕ) → k < 16 → 1 ≤ length (csr_name k)
csr-some k h = leb-true _ _ (right (leb 1 (length (register_name k))) _ (agree false (λ k. leb 1 (length (register_name k)) && leb 1 (length (csr_name k))) (λ k. true) 16 registers-some k h))

-- ---- each names its own number

registers-named : images (λ k. reg_named (register_name k)) 0 16 ≡ images reg_numbered 0 16
unfolding reg_named lower
registers-named = refl

pub register-named : (k : ℕ) → k < 16 → reg_named (register_name k) ≡ reg_numbered k
register-named = agree None (λ k. reg_named (register_name k)) reg_numbered 16 registers-named

csrs-named : images (λ k. csr_named (csr_name k)) 0 16 ≡ images csr_numbered 0 16
unfolding csr_named lower
csrs-named = refl

pub csr-named : (k : ℕ) → k < 16 → csr_named (csr_name k) ≡ csr_numbered k
csr-named = agree None (λ k. csr_named (csr_name k)) csr_numbered 16 csrs-named

-- ---- what is found is a number below 16

numbered-small : (n : ℕ) (r : Reg) → reg_numbered n ≡ Some r → r.number ≤ 15
numbered-small n r = go (leb n 15) refl
  where
    go : (t : Bool) → leb n 15 ≡ t → cond t (Some (record { number = n })) None ≡ Some r → r.number ≤ 15
    go true l e = let q : ◌≡◌ {A = Reg} (record { number = n }) r = cc in rw (← ap (λ (x : Reg). x.number) q) (leb-true n 15 l)
    go false l e = let z : ◌≡◌ {A = ℕ} 0 1 = cc in absurd (omega arith)

fixed-small : (p : ℕ) (r : Reg) → reg_fixed p ≡ Some r → r.number ≤ 15
fixed-small p r = go (ltb p 5) refl
  where
    go : (t : Bool) → ltb p 5 ≡ t → cond t (Some (record { number = get_or fixed_numbers p 0 })) None ≡ Some r → r.number ≤ 15
    go true l e =
        let q : ◌≡◌ {A = Reg} (record { number = get_or fixed_numbers p 0 }) r = cc in
        let s = ranged (λ p. leb (get_or fixed_numbers p 0) 15) true 0 5 refl p (omega arith) (ltb-true p 5 l) in
        rw (← ap (λ (x : Reg). x.number) q) (leb-true _ _ s)
    go false l e = let z : ◌≡◌ {A = ℕ} 0 1 = cc in absurd (omega arith)

pub reg-small : (w : List ℕ) (r : Reg) → reg_named w ≡ Some r → r.number ≤ 15
unfolding reg_named
reg-small w r = go (ltb (place_in register_names (map lower w)) 16)
  where
    go : (t : Bool) → cond t (reg_numbered (place_in register_names (map lower w))) (reg_fixed (place_in fixed_names (map lower w))) ≡ Some r → r.number ≤ 15
    go true e = numbered-small (place_in register_names (map lower w)) r e
    go false e = fixed-small (place_in fixed_names (map lower w)) r e

pub csr-small : (w : List ℕ) (r : Csr) → csr_named w ≡ Some r → r.number ≤ 15
unfolding csr_named
csr-small w r = go (place_in csr_names (map lower w))
  where
    go : (n : ℕ) → csr_numbered n ≡ Some r → r.number ≤ 15
    go n = of (leb n 15) refl
      where
        of : (t : Bool) → leb n 15 ≡ t → cond t (Some (record { number = n })) None ≡ Some r → r.number ≤ 15
        of true l e = let q : ◌≡◌ {A = Csr} (record { number = n }) r = cc in rw (← ap (λ (x : Csr). x.number) q) (leb-true n 15 l)
        of false l e = let z : ◌≡◌ {A = ℕ} 0 1 = cc in absurd (omega arith)
