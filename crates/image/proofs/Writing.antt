-- The loops over an image: how long its lines are, and what is left to be counted or written.
use mathlib.Core.Path.{◌≡◌, refl, sym, ap, ◌∙◌}
use mathlib.Core.Bool.{Bool, true, false, cond}
use mathlib.Core.List.{List, [], ◌∷◌, ◌++◌}
use Prim.Native.Nat.{ℕ, suc, ◌+◌, ◌-◌, ◌*◌, ◌%◌, ◌<◌, ◌≤◌}
use native.Mathlib.Omega.{arith}
use lib.ListN.{length, get_or, take, drop, length-append, length-take, length-drop}
use lib.Seq.{sets, take_all}
use Rattle.names.specs.Names.{bytes}
use Rattle.isa.specs.Opcode.{gives_reason2}
use Rattle.text.specs.Listing.{text_of}
use Rattle.text.proofs.Fitting.{sets-append}
use Rattle.text.proofs.Returning.{sixteen}
use Rattle.image.specs.Image.{instruction_of, pair_line, last_line, lines_of}

-- ---- how long a line is, at any address

pub pair-long : (a b c : ℕ) → length (pair_line a b c) ≡ 12 + length (instruction_of (b + 256 * c))
unfolding pair_line
pair-long a b c = simp length-append (omega arith)

pub last-long : (a b : ℕ) → length (last_line a b) ≡ 8
unfolding last_line
last-long a b = refl

pub lines_long : (a z : ℕ) (s : List ℕ) → length (lines_of a s) ≡ length (lines_of z s)
lines_long a z [] = refl
lines_long a z (b ∷ []) = last-long a b ∙ sym (last-long z b)
lines_long a z (b ∷ (c ∷ s)) =
    let e = lines_long (a + 2) (z + 2) s in
    simp (length-append, pair-long) (omega arith)

-- ---- no line is longer than 28 bytes

instruction-room : (w : ℕ) → w < 65536 → length (instruction_of w) ≤ 16
instruction-room w h = go (gives_reason2 (w % 256))
  where
    go : (r : Bool) → length (cond r (bytes "?") (text_of w)) ≤ 16
    go true = omega arith
    go false = sixteen w h

pair-room : (a b c : ℕ) → b < 256 → c < 256 → length (pair_line a b c) ≤ 28
pair-room a b c hb hc = let l = instruction-room (b + 256 * c) (omega arith) in omega (arith, pair-long a b c)

pub lines-room : (a : ℕ) (s : List ℕ) → ((i : ℕ) → get_or s i 0 < 256) → length (lines_of a s) ≤ 14 * length s
lines-room a [] h = omega arith
lines-room a (b ∷ []) h = omega (arith, last-long a b)
lines-room a (b ∷ (c ∷ s)) h =
    let l = lines-room (a + 2) s (λ i. h (suc (suc i))) in
    let m = pair-room a b c (h 0) (h 1) in
    simp length-append (omega arith)

-- ---- the bytes that are left of the image, and the place that the lines of the others go up to

pub record Counting (image rest : List ℕ) (n : ℕ) : Type 0 where
  pub within : length rest ≤ length image
  pub place : n + length (lines_of 0 rest) ≡ length (lines_of 0 image)

pub record Writing (out₀ : List ℕ) (a : ℕ) (image rest : List ℕ) (address at : ℕ) (out : List ℕ) : Type 0 where
  pub fits : address + length rest ≡ a + length image
  pub place : at + length (lines_of address rest) ≡ length (lines_of a image)
  pub kept : length out ≡ length out₀
  pub bytes : sets out at (lines_of address rest) ≡ sets out₀ 0 (lines_of a image)

-- the bytes that are left, as patterns take them apart
abbrev after_two : List ℕ → List ℕ
after_two s = take (length s - 2) (drop 2 s)

two-left : (s : List ℕ) → 2 ≤ length s → s ≡ get_or s 0 0 ∷ get_or s 1 0 ∷ after_two s
two-left [] h = absurd (omega arith)
two-left (b ∷ []) h = absurd (omega arith)
two-left (b ∷ c ∷ s) h = ap (λ (t : List ℕ). b ∷ c ∷ t) (sym (take_all (length (b ∷ c ∷ s) - 2) s (omega arith)))

one_left : (s : List ℕ) → length s ≡ 1 → s ≡ get_or s 0 0 ∷ []
one_left [] h = absurd (omega arith)
one_left (b ∷ []) h = refl
one_left (b ∷ c ∷ s) h = absurd (omega arith)

-- the lines of what is left: those of two bytes and the others, that of one byte, and none
pub pair_first : (a : ℕ) (s : List ℕ) → 2 ≤ length s → lines_of a s ≡ pair_line a (get_or s 0 0) (get_or s 1 0) ++ lines_of (a + 2) (after_two s)
pair_first a s h = let e = ap (lines_of a) (two-left s h) in e

pub last-alone : (a : ℕ) (s : List ℕ) → length s ≡ 1 → lines_of a s ≡ last_line a (get_or s 0 0)
last-alone a s h = ap (lines_of a) (one_left s h)

pub none_left : (a : ℕ) (s : List ℕ) → length s ≡ 0 → lines_of a s ≡ []
none_left a [] h = refl
none_left a (b ∷ s) h = absurd (omega arith)

module _ (image rest : List ℕ) (n : ℕ) (k : Counting image rest n) where
  pub pair_end : 2 ≤ length rest → n + length (pair_line 0 (get_or rest 0 0) (get_or rest 1 0)) + length (lines_of 0 (after_two rest)) ≡ length (lines_of 0 image)
  pair_end h =
      let g = simp length-append at (rw (pair_first 0 rest h) at k.place) in
      omega (arith, g, lines_long 0 2 (after_two rest))

  pub pair-counted : (m : ℕ) → 2 ≤ length rest → m ≡ length (pair_line 0 (get_or rest 0 0) (get_or rest 1 0)) → Counting image (after_two rest) (n + m)
  pair-counted m h e = record { within = omega (arith, k.within, length-take {A = ℕ}, length-drop {A = ℕ}); place = omega (arith, pair_end h, e) }

  pub last-counted : length rest ≡ 1 → n + 8 ≡ length (lines_of 0 image)
  last-counted h = omega (arith, rw (last-alone 0 rest h) at k.place, last-long 0 (get_or rest 0 0))

  pub all-counted : length rest ≡ 0 → n ≡ length (lines_of 0 image)
  all-counted h = omega (arith, rw (none_left 0 rest h) at k.place)

module _ (out₀ : List ℕ) (a : ℕ) (image rest : List ℕ) (address at : ℕ) (out : List ℕ) (w : Writing out₀ a image rest address at out) where
  pub last-room : length rest ≡ 1 → at + 8 ≡ length (lines_of a image)
  last-room h = omega (arith, rw (last-alone address rest h) at w.place, last-long address (get_or rest 0 0))

  pub last-put : (next : ℕ) (left : List ℕ) → length rest ≡ 1 → next ≡ at + length (last_line address (get_or rest 0 0))
      → left ≡ sets out at (last_line address (get_or rest 0 0)) → (next ≡ length (lines_of a image)) × (left ≡ sets out₀ 0 (lines_of a image))
  last-put next left h p q = (p ∙ (rw (last-alone address rest h) at w.place), q ∙ (rw (last-alone address rest h) at w.bytes))

  pub pair-room-left : 2 ≤ length rest → at + length (pair_line address (get_or rest 0 0) (get_or rest 1 0)) ≤ length (lines_of a image)
  pair-room-left h =
      let g = simp length-append at (rw (pair_first address rest h) at w.place) in
      omega arith

  pub pair_put : (next : ℕ) (left : List ℕ) → 2 ≤ length rest → next ≡ at + length (pair_line address (get_or rest 0 0) (get_or rest 1 0))
      → left ≡ sets out at (pair_line address (get_or rest 0 0) (get_or rest 1 0)) → length left ≡ length out → Writing out₀ a image (after_two rest) (address + 2) next left
  pair_put next left h p q k =
      let t : List ℕ = pair_line address (get_or rest 0 0) (get_or rest 1 0) in
      let u : List ℕ = lines_of (address + 2) (after_two rest) in
      let g = simp length-append at (rw (pair_first address rest h) at w.place) in
      record {
        fits = omega (arith, w.fits, length-take {A = ℕ}, length-drop {A = ℕ});
        place = omega (arith, g, p);
        kept = k ∙ w.kept;
        bytes = rw (q, p) (sets-append out at t u ∙ (rw (pair_first address rest h) at w.bytes));
      }

  pub all-put : length rest ≡ 0 → (at ≡ length (lines_of a image)) × (out ≡ sets out₀ 0 (lines_of a image))
  all-put h = (omega (arith, rw (none_left address rest h) at w.place), rw (none_left address rest h) at w.bytes)
