use mathlib.Core.Path.{◌≡◌}
use Prim.Native.Nat.{◌+◌, ◌-◌}
use lib.ListN.{length}
use lib.Seq.{sets}
use Rattle.text.specs.Code.{digits, key_text}
use Rattle.text.proofs.list.put.Given as goal

-- the bytes that are left go where the loop is, and are so many as there is room for
abbrev pub invariant-loop-i : goal.invariant-loop-i
invariant-loop-i l =
    (sets l.out l.i (digits (8 + l.at - l.i) l.rest) ≡ sets l.initial.out l.at (key_text l.key))
    × (l.i + length (digits (8 + l.at - l.i) l.rest) ≡ l.at + length (key_text l.key))
    × (length l.out ≡ length l.initial.out)
