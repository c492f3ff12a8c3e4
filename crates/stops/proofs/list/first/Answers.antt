use Rattle.std.proofs.Common.{◌∙◌, sym}
use Rattle.entries.specs.Entries.{entry, meets}
use Rattle.stops.proofs.Rows.{first-here, first-later, first-none}
use Rattle.stops.proofs.list.first.Goals as goal

pub returns-then-is_met : goal.returns-then-is_met
returns-then-is_met c =
    sym (first-here (meets c.args.x) c.loop-e.e-index c.list-e-items.result.now (entry 0 0 0) c.loop-e-test.true (sym c.is_met.ensures ∙ c.if-is_met.true))
    ∙ c.loop-e.invariant

pub loop-e-preserved : goal.loop-e-preserved
loop-e-preserved c =
    sym (first-later (meets c.args.x) c.loop-e.e-index c.list-e-items.result.now (entry 0 0 0) c.loop-e-test.true (sym c.is_met.ensures ∙ c.if-is_met.false))
    ∙ c.loop-e.invariant

pub returns : goal.returns
returns c = sym (first-none (meets c.args.x) c.loop-e.e-index c.list-e-items.result.now c.loop-e-test.false) ∙ c.loop-e.invariant
