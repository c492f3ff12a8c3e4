-- What a write changes of memory, and what bytes written keep of it.
use mathlib.Core.Path.{◌≡◌, refl, sym, ◌∙◌, ap, subst}
use mathlib.Core.Bool.{Bool, true, false, cond}
use mathlib.Core.List.{List}
use Prim.Native.Nat.{ℕ}
use lib.Dec.{ltb}
use lib.ListN.{length, set, length-set}
use lib.Seq.{set_out, set-get_or}
use borrow.Author.Tests.{ltb-false}
use Rattle.word.specs.Word.{above, low_at, high_at}
use Rattle.word.specs.Memory.{byte_in}
use Rattle.bus.specs.Addresses.{dropped, Bus, put_byte, put_word}
use Rattle.bus.specs.Good.{Changed, none, one, two}

-- a byte written is a byte of the list changed, if it is in RAM; past its end neither changes anything, and a dropped byte is as it was
landed : Bus → ℕ → ℕ → ℕ
landed u a x = cond (dropped u.board.stretch (length u.ram) a) (byte_in u.ram a) x

byte-sets : (u : Bus) (a x : ℕ) → (put_byte u a x).ram ≡ set u.ram a (landed u a x)
unfolding put_byte landed
byte-sets u a x = go (dropped u.board.stretch (length u.ram) a) (ltb a (length u.ram)) refl refl
  where
    go : (d t : Bool) → dropped u.board.stretch (length u.ram) a ≡ d → ltb a (length u.ram) ≡ t → (put_byte u a x).ram ≡ set u.ram a (landed u a x)
    go true t e f = simp e (sym (set-get_or u.ram a 0))
    go false true e f = simp (e, f)
    go false false e f = simp (e, f) (sym (set_out u.ram a x (ltb-false _ _ f)))

-- so no caller needs to know which bytes were dropped
pub byte-changes : (u : Bus) (a x : ℕ) → Changed u.ram a 1 (put_byte u a x).ram
byte-changes u a x = subst (Changed u.ram a 1) (sym (byte-sets u a x)) (one a (landed u a x))

pub word-changes : (u : Bus) (a w : ℕ) → Changed u.ram a 2 (put_word u a w).ram
unfolding put_word
word-changes u a w =
    let v = put_byte u a (low_at 8 w) in
    let y = landed v (above a) (high_at 8 w) in
    subst (Changed u.ram a 2)
    (sym (byte-sets v (above a) (high_at 8 w) ∙ ap (λ (l : List ℕ). set l (above a) y) (byte-sets u a (low_at 8 w))))
    (two a (landed u a (low_at 8 w)) y)

-- bytes written keep the length of memory
pub kept-length : {m : List ℕ} {a n : ℕ} {m' : List ℕ} → Changed m a n m' → length m' ≡ length m
kept-length none = refl
kept-length {m} (one a x) = length-set m a x
kept-length {m} (two a x y) = length-set (set m a x) (above a) y ∙ length-set m a x
