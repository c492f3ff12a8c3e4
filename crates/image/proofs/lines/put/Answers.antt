use mathlib.Core.Path.{◌≡◌}
use mathlib.Core.List.{append_assoc}
use Prim.Native.Nat.{◌+◌, ◌-◌}
use native.Mathlib.Omega.{arith}
use lib.ListN.{length}
use lib.Seq.{sets-eq, drop-drop}
use Rattle.image.proofs.lines.put.Goals as goal

pub returns : goal.returns
returns c =
    let a = c.args in
    let t = a.text.now in
    let k : a.at + length t - a.at ≡ length t = omega arith in
    (omega arith, rw (c.copy_from_slice.ensures.after, k, drop-drop (length t) a.at a.out.now, sets-eq t a.out.now a.at c.requires, append_assoc))
