-- What the mark of a key suggests: the only opcode whose mnemonic can have the key. What was written is that mnemonic, or names none.
use mathlib.Core.Path.{◌≡◌, refl, sym, ap, ◌∙◌}
use mathlib.Core.Bool.{Bool, true, false, cond}
use mathlib.Core.List.{List, [], map}
use Rattle.std.specs.Prelude.{Some, None}
use Prim.Native.Nat.{ℕ, ◌<◌}
use native.Mathlib.Nat.{zero-add}
use borrow.Author.Tests.{lt-ltb, eqb-true, eqb-false}
use Rattle.std.specs.Bool.{then_some}
use lib.Dec.{eqb}
use lib.ListN.{get_or, length}
use Rattle.letters.proofs.Lists.{images-at, agree}
use Rattle.names.specs.Names.{lower}
use Rattle.names.specs.Code.{pack, key_of}
use Rattle.names.proofs.Keyed.{Bytes, lower-bytes, all_tidy, key-some, unkeyed-place, found, missed}
use Rattle.isa.specs.Opcode.{meaning, mnemonics, opcode_named}
use Rattle.isa.specs.Code.{key_at, mark_of, Marked, CanOnlyBe}

-- the computed test read at one opcode
pub marked : (marks : List ℕ) → Marked marks → (key : ℕ) → CanOnlyBe key (get_or marks (mark_of key) 0)
unfolding Marked CanOnlyBe
marked marks m key o h z e =
    rw (e, z) at (agree 0 (λ o. cond (eqb (key_at o) 0) o (get_or marks (mark_of (key_at o)) 0)) (λ o. o) 256 m o h)

mnemonics-tidy : all_tidy mnemonics ≡ true
unfolding mnemonics meaning
mnemonics-tidy = refl

mnemonics-long : length mnemonics ≡ 256
unfolding mnemonics
mnemonics-long = refl

mnemonic-at : (k : ℕ) → k < 256 → get_or mnemonics k [] ≡ (meaning k).name
unfolding mnemonics
mnemonic-at k h = images-at [] (λ opcode. (meaning opcode).name) 0 256 k h ∙ ap (λ (n : ℕ). (meaning n).name) (zero-add k)

-- what was written has no key, and is no mnemonic
pub opcode-unkeyed : (w : List ℕ) → key_of (map lower w) ≡ None → None ≡ opcode_named w
unfolding opcode_named
opcode-unkeyed w e = rw (unkeyed-place (map lower w) e mnemonics mnemonics-tidy, mnemonics-long)

module _ (w : List ℕ) (bw : Bytes w) (key p m : ℕ) (k : key_of (map lower w) ≡ Some key) (h : p < 256) (can : CanOnlyBe key p) (e : m ≡ key_at p) where
  only : (j : ℕ) → j < length mnemonics → pack (get_or mnemonics j []) ≡ key → p ≡ j
  unfolding CanOnlyBe
  only j l q =
      let l : j < 256 = rw (← mnemonics-long) l in
      can j l (key-some (map lower w) key k) (ap pack (sym (mnemonic-at j l)) ∙ q)

  opcode-found : m ≡ key → Some p ≡ opcode_named w
  unfolding opcode_named
  opcode-found q =
      let f = found (map lower w) (lower-bytes w bw) key k mnemonics mnemonics-tidy p only (rw mnemonics-long h) (ap pack (mnemonic-at p h) ∙ sym e ∙ q) in
      rw (f, lt-ltb p 256 h)

  opcode-missed : (m ≡ key → ⊥) → None ≡ opcode_named w
  unfolding opcode_named
  opcode-missed q =
      let f = missed (map lower w) (lower-bytes w bw) key k mnemonics mnemonics-tidy p only (λ x. q (e ∙ ap pack (sym (mnemonic-at p h)) ∙ x)) in
      rw (rw mnemonics-long at f)

  pub opcode-told : then_some (eqb m key) p ≡ opcode_named w
  opcode-told = go (eqb m key) refl
    where
      go : (b : Bool) → eqb m key ≡ b → then_some b p ≡ opcode_named w
      go true q = opcode-found (eqb-true m key q)
      go false q = opcode-missed (eqb-false m key q)
