use mathlib.Core.Path.{◌≡◌}
use lib.ListN.{drop}
use Rattle.lexis.specs.Code.{gone_on, figures_of}
use Rattle.lexis.proofs.numbers.counted_up.Given as goal

abbrev pub invariant-loop-b : goal.invariant-loop-b
invariant-loop-b l = gone_on l.base l.d (drop l.b-index l.text) ≡ figures_of l.base l.text
