use Rattle.std.proofs.Common.{◌||◌, eqb, rules, tests}
use Rattle.std.proofs.lemmas.Iterator.{YieldsList-from_slice}
use Rattle.std.proofs.lemmas.Iterator.Search.{all_from_yields_List}
use Rattle.entries.specs.declared.Entry.{Entry}
use Rattle.entries.proofs.Places.{all-kinds}
use Rattle.entries.proofs.known.Goals as goal

pub returns : goal.returns
returns c =
    all-kinds c.args.list.now _
    (all_from_yields_List (λ (e : Entry). eqb e.kind 1 || eqb e.kind 2) _ _ _ c.all.ensures.ran (YieldsList-from_slice c.args.list.now cc)
    (λ x b q k. search (rules, tests)))
