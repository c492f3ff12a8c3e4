use Rattle.std.proofs.Common.{rules, tests}
use Rattle.std.proofs.lemmas.Iterator.{YieldsList-from_slice}
use Rattle.std.proofs.lemmas.Iterator.Search.{position_from_yields_List}
use Rattle.entries.specs.Entries.{meets}
use Rattle.entries.proofs.Places.{position-found}
use Rattle.entries.proofs.first.Goals as goal

pub returns : goal.returns
returns c =
    let f = meets c.args.x in let l = c.args.list.now in
    position-found f l _ (position_from_yields_List f _ _ _ c.position.ensures.ran (YieldsList-from_slice l cc) (λ x b q k. search (rules, tests)))
