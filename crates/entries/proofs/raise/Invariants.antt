use mathlib.Core.Path.{◌≡◌}
use Rattle.entries.proofs.Raising.{raises}
use Rattle.entries.proofs.raise.Given as goal

abbrev pub invariant-loop-i : goal.invariant-loop-i
invariant-loop-i l = l.h-items ≡ raises l.x l.i l.addresses l.kinds l.fn.hits
