use mathlib.Core.Path.{◌≡◌}
use Prim.Native.Nat.{◌≤◌}
use lib.ListN.{drop}
use Rattle.quoted.specs.Quoted.{meant}
use Rattle.quoted.specs.Code.{counted}
use Rattle.quoted.specs.declared.Mode.TheVariants.{Plain}
use Rattle.quoted.proofs.Turns.{counting}
use Rattle.quoted.proofs.count.Given as goal

abbrev pub invariant-loop-b : goal.invariant-loop-b
invariant-loop-b l = (l.n ≤ l.b-index) × (counting l.n (meant l.quote l.mode (drop l.b-index l.text)) ≡ counted (meant l.quote Plain l.text))
