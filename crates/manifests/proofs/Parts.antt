-- Parts of a lent text.
use Prim.Native.Nat.{ℕ, ◌-◌}
use mathlib.Core.Path.{◌≡◌}
use mathlib.Core.List.{List}
use native.Mathlib.Omega.{arith}
use lib.ListN.{length, take, drop, length-drop}
use lib.Seq.{take_all}

-- what is lent from a place on
pub lent : (s : List ℕ) (k : ℕ) → take (length s - k) (drop k s) ≡ drop k s
lent s k = take_all (length s - k) (drop k s) (simp length-drop (omega arith))
