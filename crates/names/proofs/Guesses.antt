-- What the last digit of a key suggests, for registers and CSRs: the only number whose name can have the key. What was written is that name, or names none.
use mathlib.Core.Path.{◌≡◌, refl, sym, ap, ◌∙◌}
use mathlib.Core.Bool.{Bool, true, false, cond}
use mathlib.Core.List.{List, [], map}
use Rattle.std.specs.Prelude.{Some, None}
use Prim.Native.Nat.{ℕ, ◌+◌, ◌/◌, ◌%◌, ◌<◌}
use native.Mathlib.Omega.{arith}
use borrow.Author.Tests.{lt-ltb, ltb-false, lt-leb}
use lib.Dec.{ltb}
use lib.ListN.{get_or, length}
use Rattle.letters.specs.Lists.{images}
use Rattle.letters.proofs.Lists.{agree}
use Rattle.names.specs.Names.{lower, place_in, register_names, fixed_names, csr_names, register_name, csr_name, reg_numbered, reg_named, csr_numbered, csr_named}
use Rattle.names.specs.Code.{pack, key_of, fixed_keyed, number_near}
use Rattle.names.proofs.Keyed.{Bytes, lower-bytes, all_tidy, seek-place, unkeyed-place, found, missed}

pub near-small : (key p : ℕ) → p ≡ number_near key → p < 16
unfolding number_near
near-small key p e = rw e (go (ltb key 65536))
  where
    go : (b : Bool) → cond b (key / 256 % 16) ((10 + key / 65536 % 16) % 16) < 16
    go true = omega arith
    go false = omega arith

-- sixteen names, each of whose keys suggests its own number
module _ (ns : List (List ℕ)) (t : all_tidy ns ≡ true) (l : length ns ≡ 16) (g : ℕ → ℕ) (test : images (λ k. g (pack (get_or ns k []))) 0 16 ≡ images (λ k. k) 0 16) where
  module _ (w : List ℕ) (bw : Bytes w) (key : ℕ) (k : key_of w ≡ Some key) (p : ℕ) (n : p ≡ g key) where
    sixteen : (k : ℕ) → k < length ns → pack (get_or ns k []) ≡ key → p ≡ k
    sixteen k h e = n ∙ ap g (sym e) ∙ agree 0 (λ k. g (pack (get_or ns k []))) (λ k. k) 16 test k (rw (← l) h)

    sixteen-found : p < 16 → pack (get_or ns p []) ≡ key → place_in ns w ≡ p
    sixteen-found h e = found w bw key k ns t p sixteen (rw l h) e

    sixteen-missed : (pack (get_or ns p []) ≡ key → ⊥) → ltb (place_in ns w) 16 ≡ false
    sixteen-missed e = rw l at (missed w bw key k ns t p sixteen e)

registers-near : images (λ k. number_near (pack (register_name k))) 0 16 ≡ images (λ k. k) 0 16
unfolding number_near
registers-near = refl

csrs-near : images (λ k. number_near (pack (csr_name k) / 65536)) 0 16 ≡ images (λ k. k) 0 16
unfolding number_near
csrs-near = refl

-- what was written has no key, and is no name
pub register-unkeyed : (w : List ℕ) → key_of (map lower w) ≡ None → None ≡ reg_named w
unfolding reg_named
register-unkeyed w e = rw (unkeyed-place (map lower w) e register_names refl, unkeyed-place (map lower w) e fixed_names refl)

pub csr-unkeyed : (w : List ℕ) → key_of (map lower w) ≡ None → None ≡ csr_named w
unfolding csr_named
csr-unkeyed w e = rw (unkeyed-place (map lower w) e csr_names refl)

-- what was written, its key, the number that the key suggests and the key m of that number's name
module _ (w : List ℕ) (bw : Bytes w) (key p m : ℕ) (k : key_of (map lower w) ≡ Some key) where
  module _ (n : p ≡ number_near key) (e : m ≡ pack (register_name p)) where
    pub register-found : m ≡ key → reg_numbered p ≡ reg_named w
    unfolding reg_named
    register-found q =
        let f = sixteen-found register_names refl refl number_near registers-near (map lower w) (lower-bytes w bw) key k p n (near-small key p n) (sym e ∙ q) in
        rw (f, lt-ltb p 16 (near-small key p n))

    pub register-missed : (m ≡ key → ⊥) → fixed_keyed key ≡ reg_named w
    unfolding reg_named fixed_keyed
    register-missed q =
        let f = sixteen-missed register_names refl refl number_near registers-near (map lower w) (lower-bytes w bw) key k p n (λ x. q (e ∙ x)) in
        rw (f, seek-place (map lower w) (lower-bytes w bw) key k fixed_names refl)

  module _ (n : p ≡ number_near (key / 65536)) (e : m ≡ pack (csr_name p)) where
    pub csr-found : m ≡ key → csr_numbered p ≡ csr_named w
    unfolding csr_named
    csr-found q =
        ap csr_numbered
        (sym (sixteen-found csr_names refl refl (λ x. number_near (x / 65536)) csrs-near (map lower w) (lower-bytes w bw) key k p n (near-small _ p n) (sym e ∙ q)))

    pub csr-missed : (m ≡ key → ⊥) → None ≡ csr_named w
    unfolding csr_named
    csr-missed q =
        let f = sixteen-missed csr_names refl refl (λ x. number_near (x / 65536)) csrs-near (map lower w) (lower-bytes w bw) key k p n (λ x. q (e ∙ x)) in
        rw (lt-leb _ 15 (ltb-false _ _ f))
