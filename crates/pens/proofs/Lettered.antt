-- A name poked letter by letter.
use Prim.Native.Nat.{ℕ, suc, ◌+◌, ◌-◌, ◌%◌, ◌≤◌, ◌<◌}
use mathlib.Core.Path.{◌≡◌, refl, sym, ◌∙◌, ap}
use mathlib.Core.Bool.{true}
use mathlib.Core.List.{List, [], ◌∷◌, ◌++◌}
use native.Mathlib.Omega.{arith}
use native.Mathlib.Nat.{mod-eq_of_lt}
use native.Mathlib.Decide.{dec_lt}
use lib.ListN.{length, drop}
use Rattle.history.specs.Trace.{give}
use Rattle.calls.specs.Inputs.{poke}
use Rattle.calls.specs.Calls.{W, answer_of}
use Rattle.utf8.specs.Utf8.{letter, letter_of, onto, points}
use Rattle.utf8.specs.Latin.{judged_of, latin_of, all_latin}
use Rattle.std.specs.Prelude.{Option, Some, None, Ok}
use Rattle.utf8.proofs.Reading.{none_left, one-letter, bad-letter, fine-points, fine-length, fine-latin, latin-head}
use Rattle.pens.specs.Pen.{pokings, made}

-- what is left of a name from a place on: so many single bytes
pub record Rest (name : List ℕ) (i left : ℕ) : Type 0 where
  pub bytes : List ℕ
  pub read : points (drop i name) ≡ Some bytes
  pub long : length bytes ≡ left
  pub latin : all_latin bytes ≡ true

-- what one letter tells: `single`'s promise
abbrev pub Singles : List ℕ → ℕ → ℕ → ℕ → Type 0
Singles name i byte next = (c : ℕ) (s : List ℕ) → points (drop i name) ≡ Some (c ∷ s) → c ≤ 255 → (byte ≡ c) × (points (drop next name) ≡ Some s)

onto-some : (c d : ℕ) (o : Option (List ℕ)) (s : List ℕ) → onto c o ≡ Some (d ∷ s) → (c ≡ d) × (o ≡ Some s)
onto-some c d None s e = let z : ◌≡◌ {A = ℕ} 0 1 = cc in absurd (omega arith)
onto-some c d (Some t) s e = let x : c ≡ d = cc in let y : t ≡ s = cc in (x, ap Some y)

pub singles-letter : (name : List ℕ) (i p n : ℕ) → letter_of (drop i name) ≡ letter p n → Singles name i (p % 256) (i + n)
singles-letter name i p n e c s q h =
    let k = onto-some p c (points (drop (i + n) name)) s (sym (one-letter name i p n e) ∙ q) in
    let m : p % 256 ≡ p = mod-eq_of_lt (omega (arith, k.0, h)) in
    (m ∙ k.0, k.1)

-- where no letter begins no byte is asked for
nothing-at : (name : List ℕ) (i c : ℕ) (s : List ℕ) → letter_of (drop i name) ≡ None → points (drop i name) ≡ Some (c ∷ s) → ⊥
nothing-at name i c s e q = go (dec_lt i (length name))
  where
    go : Dec (i < length name) → ⊥
    go (yes h) = let f = sym (bad-letter name i h e) ∙ q in let z : ◌≡◌ {A = ℕ} 0 1 = cc in omega arith
    go (no h) = let f = sym (none_left name i (omega arith)) ∙ q in let z : ◌≡◌ {A = ℕ} 0 1 = cc in omega arith

pub singles-bad : (name : List ℕ) (i byte next : ℕ) → letter_of (drop i name) ≡ None → Singles name i byte next
singles-bad name i byte next e c s q h = absurd (nothing-at name i c s e q)

-- ---- letter by letter
abbrev ending : List ℕ → List ℕ
ending s = s ++ (0 ∷ [])

-- what is left to poke, from an address on, in a world w, that comes to v
pub record Left (name : List ℕ) (i left a : ℕ) (w v : W) : Type 0 where
  pub rest : Rest name i left
  pub comes : made (pokings a (ending rest.bytes)) w ≡ v

pub begun : (name : List ℕ) (n a : ℕ) (w : W) → judged_of name ≡ Ok n → Left name 0 n a w (made (pokings a (ending (latin_of name))) w)
begun name n a w e =
    record {
      rest = record { bytes = latin_of name; read = fine-points name n e; long = fine-length name n e; latin = fine-latin name n e };
      comes = refl;
    }

module _ (name : List ℕ) (i left a : ℕ) (w v : W) where
  turned : (bytes : List ℕ) → points (drop i name) ≡ Some bytes → length bytes ≡ suc left → all_latin bytes ≡ true → made (pokings a (ending bytes)) w ≡ v
      → (byte next : ℕ) → Singles name i byte next → (u : W) → u ≡ (answer_of (give (poke a byte)) w).world → Left name next left (a + 1) u v
  unfolding made pokings
  turned [] p l t q byte next f u e = absurd (omega (arith, l))
  turned (c ∷ s) p l t q byte next f u e =
      let h = latin-head c s t in
      let k = f c s p h.1 in
      record {
        rest = record { bytes = s; read = k.1; long = omega (arith, l); latin = h.2 };
        comes = ap (made (pokings (a + 1) (ending s))) (e ∙ ap (λ (x : ℕ). (answer_of (give (poke a x)) w).world) k.0) ∙ q;
      }

  closing : (bytes : List ℕ) → length bytes ≡ 0 → made (pokings a (ending bytes)) w ≡ v → (answer_of (give (poke a 0)) w).world ≡ v
  unfolding made pokings
  closing [] l q = q
  closing (c ∷ s) l q = absurd (omega (arith, l))

pub turn : (name : List ℕ) (i left a : ℕ) (w v : W) → Left name i left a w v → 0 < left → (byte next : ℕ) → Singles name i byte next
    → (u : W) → u ≡ (answer_of (give (poke a byte)) w).world → Left name next (left - 1) (a + 1) u v
turn name i left a w v r h byte next f u e =
    turned name i (left - 1) a w v r.rest.bytes r.rest.read (r.rest.long ∙ omega arith) r.rest.latin r.comes byte next f u e

-- the closing 0
pub closed : (name : List ℕ) (i left a : ℕ) (w v : W) → Left name i left a w v → left ≤ 0 → (answer_of (give (poke a 0)) w).world ≡ v
closed name i left a w v r h = closing name i left a w v r.rest.bytes (r.rest.long ∙ omega arith) r.comes
