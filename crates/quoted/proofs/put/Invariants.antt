use mathlib.Core.Path.{◌≡◌}
use lib.ListN.{length, drop}
use Rattle.std.specs.Prelude.{Some}
use Rattle.quoted.specs.Quoted.{meant}
use Rattle.quoted.specs.Code.{written}
use Rattle.quoted.specs.declared.Mode.TheVariants.{Plain}
use Rattle.quoted.proofs.Turns.{counting}
use Rattle.quoted.proofs.put.Given as goal

abbrev pub invariant-loop-b : goal.invariant-loop-b
invariant-loop-b l = (counting l.k (meant l.quote l.mode (drop l.b-index l.text)) ≡ Some l.n)
    × (written (meant l.quote l.mode (drop l.b-index l.text)) l.k l.out ≡ written (meant l.quote Plain l.text) 0 l.initial.out) × (length l.out ≡ length l.initial.out)
