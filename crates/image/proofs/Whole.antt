-- The header and the whole output.
use mathlib.Core.Path.{◌≡◌, refl}
use mathlib.Core.Bool.{Bool, true, false, cond, ◌&&◌, and-false}
use mathlib.Core.List.{List}
use Prim.Native.Nat.{ℕ, ◌+◌, ◌<◌, ◌≤◌}
use native.Mathlib.Omega.{arith}
use borrow.Author.Tests.{leb-true, le-leb, lt-leb}
use lib.Dec.{eqb, leb}
use lib.ListN.{length, drop, length-drop}
use Rattle.names.specs.Names.{bytes}
use Rattle.text.specs.Answer.{Answer}
use Rattle.text.proofs.Unique.{read_back}
use Rattle.image.specs.Image.{lines_of, header_of, listing_of, written_as}
use Rattle.std.specs.Prelude.{Option, Some, None}

pub header-long : (s : List ℕ) (a : ℕ) → header_of s ≡ Some a → 5 ≤ length s
unfolding header_of
header-long s a = go (leb 5 (length s)) refl _ _
  where
    go : (t : Bool) → leb 5 (length s) ≡ t → (r : Bool) (h : Option ℕ) → cond (t && r) h None ≡ Some a → 5 ≤ length s
    go true e r h q = leb-true 5 (length s) e
    go false e r h q = let z : ◌≡◌ {A = ℕ} 0 1 = cc in absurd (omega arith)

-- ---- the whole text, by the header and the length

pub says-bad : (s : List ℕ) → header_of s ≡ None → listing_of s ≡ bytes "bad header\n"
unfolding listing_of
says-bad s e = rw e

module _ (s : List ℕ) (a : ℕ) (e : header_of s ≡ Some a) where
  pub says-long : 60005 < length s → listing_of s ≡ bytes "too long\n"
  unfolding listing_of
  says-long h = rw (e, lt-leb (length (drop 5 s)) 60000 (simp length-drop (omega arith)))

  pub says_past : 65541 < a + length s → listing_of s ≡ bytes "too long\n"
  unfolding listing_of
  says_past h =
      let l = header-long s a e in
      rw (e, lt-leb (a + length (drop 5 s)) 65536 (simp length-drop (omega arith)), and-false (leb (length (drop 5 s)) 60000))

  pub says-lines : length s ≤ 60005 → a + length s ≤ 65541 → listing_of s ≡ lines_of a (drop 5 s)
  unfolding listing_of
  says-lines h k =
      let l = header-long s a e in
      rw (e, le-leb (length (drop 5 s)) 60000 (simp length-drop (omega arith)), le-leb (a + length (drop 5 s)) 65536 (simp length-drop (omega arith)))

-- ---- no second answer satisfies the promise

abbrev written_of : Answer → Option ℕ
written_of a = cond (eqb a.no 11) None (Some a.value)

written_back : (r : Option ℕ) → written_of (written_as r) ≡ r
written_back (Some n) = refl
written_back None = refl

pub written_one : (r s : Option ℕ) → written_as r ≡ written_as s → r ≡ s
written_one = read_back written_as written_of written_back
