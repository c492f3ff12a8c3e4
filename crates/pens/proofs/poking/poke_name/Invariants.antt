use mathlib.Core.Path.{◌≡◌}
use mathlib.Core.List.{[], ◌∷◌, ◌++◌}
use Prim.Native.Nat.{◌-◌}
use lib.ListN.{length}
use Rattle.calls.specs.Calls.{world_of}
use Rattle.utf8.specs.Latin.{latin_of}
use Rattle.pens.specs.Pen.{pokings, made}
use Rattle.pens.proofs.Lettered.{Left}
use Rattle.pens.proofs.poking.poke_name.Given as goal

abbrev pub invariant-loop-a : goal.invariant-loop-a
invariant-loop-a l = (length l.ram ≡ length l.initial.ram) × (length l.journal ≡ length l.initial.journal)
    × Left l.name l.i (l.end - l.a) l.a (world_of l.after l.ram l.journal) (made (pokings l.at (latin_of l.name ++ (0 ∷ []))) (world_of l.initial.after l.initial.ram l.initial.journal))
