-- A record pushed where there is a next slot, and where there is none.
use Prim.Native.Nat.{ℕ, ◌+◌, ◌*◌, ◌≤◌, ◌<◌, min}
use mathlib.Core.Path.{◌≡◌}
use mathlib.Core.List.{List}
use borrow.Author.Tests.{lt-ltb, le-ltb}
use lib.Seq.{paste}
use Rattle.history.specs.Ring.{Ring, ring_of, slot_after, pushed}

pub push-in : (n : ℕ) (r : List ℕ) (j : Ring) → j.next < n
    → pushed n r j ≡ ring_of (paste j.words (j.next * 32) r 32) (slot_after n j.next) (min n (j.held + 1))
unfolding pushed
push-in n r j h = simp (lt-ltb j.next n h)

pub push-out : (n : ℕ) (r : List ℕ) (j : Ring) → n ≤ j.next → pushed n r j ≡ j
unfolding pushed
push-out n r j h = simp (le-ltb j.next n h)
