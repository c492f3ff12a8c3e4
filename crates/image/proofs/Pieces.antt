-- Pieces that are written one after the other, and the text of an instruction among them.
use mathlib.Core.Path.{◌≡◌, ap, ◌∙◌}
use mathlib.Core.Bool.{true}
use mathlib.Core.List.{List, ◌++◌, append_assoc, append-nil}
use Prim.Native.Nat.{ℕ, ◌+◌, ◌-◌, ◌%◌, ◌≤◌}
use native.Mathlib.Omega.{arith}
use borrow.Author.Tests.{le-ltb}
use lib.ListN.{length, take, drop, length-append, length-drop, take-append-drop, drop_of_length-le}
use lib.Seq.{sets, sets-eq, drop-drop, take_all}
use Rattle.names.specs.Names.{bytes as Names·bytes}
use Rattle.isa.specs.Opcode.{gives_reason2}
use Rattle.text.specs.Listing.{text_of, list_leaves}
use Rattle.text.proofs.Fitting.{sets-append}
use Rattle.text.proofs.Returning.{Seen}
use Rattle.image.specs.Image.{instruction_of}

-- a text that was stored from a place on, the place after it, and what the output is then
pub record Put (out : List ℕ) (at : ℕ) (t : List ℕ) (next : ℕ) (left : List ℕ) : Type 0 where
  pub place : next ≡ at + length t
  pub bytes : left ≡ sets out at t

-- a piece whose bytes are known by another name
pub wrote : (out : List ℕ) (at : ℕ) {next : ℕ} {left u t : List ℕ} → u ≡ t → (next ≡ at + length u) × (left ≡ sets out at u) → Put out at t next left
wrote out at e w = record { place = w.0 ∙ ap (λ (l : List ℕ). at + length l) e; bytes = w.1 ∙ ap (sets out at) e }

pub then : {out mid left : List ℕ} {at p next : ℕ} {s t : List ℕ} → Put out at s p mid → Put mid p t next left → Put out at (s ++ t) next left
then {out} {mid} {left} {at} {p} {next} {s} {t} x y =
    record {
      place = let a = x.place in let b = y.place in simp length-append (omega arith);
      bytes = y.bytes ∙ rw (x.bytes, x.place) (sets-append out at s t);
    }

-- ---- what is lent from a place on, `&mut out[at..]`

abbrev pub rest : List ℕ → ℕ → List ℕ
rest out at = take (length out - at) (drop at out)

-- the whole, when that is back
abbrev pub back : List ℕ → ℕ → List ℕ → List ℕ
back out at left = take at out ++ (left ++ drop (length out - at) (drop at out))

module _ (out : List ℕ) (at : ℕ) where
  pub rest-whole : rest out at ≡ drop at out
  rest-whole = take_all (length out - at) (drop at out) (simp length-drop (omega arith))

  pub rest-long : length (rest out at) ≡ length out - at
  rest-long = rw rest-whole (length-drop at out)

  back_whole : (left : List ℕ) → back out at left ≡ take at out ++ left
  back_whole left =
      rw (drop_of_length-le (drop at out) {i = length out - at} (simp length-drop (omega arith)), append-nil left)

  -- it comes back with a text at its front
  pub placed : (t : List ℕ) → at + length t ≤ length out → back out at (t ++ drop (length t) (rest out at)) ≡ sets out at t
  placed t h =
      back_whole (t ++ drop (length t) (rest out at))
      ∙ (rw (rest-whole, drop-drop (length t) at out, sets-eq t out at h, append_assoc (take at out) t (drop (at + length t) out)))

  pub untouched : back out at (rest out at) ≡ out
  untouched = back_whole (rest out at) ∙ (rw (rest-whole, take-append-drop at out))

-- ---- an instruction's text, as listing it says

-- where there is room for the line's end too
pub seen-room : (w n at size : ℕ) → at + length (instruction_of w ++ Names·bytes "\n") ≤ size → Seen w n → at + n + 1 ≤ size
seen-room w n at size h s =
    let g = simp length-append at (rw s.legal at h) in
    omega (arith, s.whole)

module _ (w at : ℕ) (out left : List ℕ) (e : left ≡ list_leaves w (rest out at)) where
  pub listed-text : (n : ℕ) → at + length (instruction_of w) ≤ length out → Seen w n → Put out at (instruction_of w) (at + n) (back out at left)
  unfolding list_leaves
  listed-text n r s =
      let k : at + length (text_of w) ≤ length out = rw s.legal at r in
      let l : length (text_of w) ≤ length (rest out at) = omega (arith, rest-long out at) in
      let p : left ≡ text_of w ++ drop (length (text_of w)) (rest out at) = e ∙ (rw (s.legal, le-ltb _ _ l)) in
      rw (s.legal, p) (record { place = ap (λ (i : ℕ). at + i) s.whole; bytes = placed out at (text_of w) k })

  pub listed-none : gives_reason2 (w % 256) ≡ true → back out at left ≡ out
  unfolding list_leaves
  listed-none r = let p : left ≡ rest out at = e ∙ (rw r) in rw p (untouched out at)
