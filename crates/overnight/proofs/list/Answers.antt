use Rattle.std.proofs.Common.{◌∙◌, sym, arith}
use Rattle.pens.proofs.Joined.{headed-pen}
use Rattle.pens.proofs.Listed.{pen-next, pens-done}
use Rattle.overnight.proofs.list.Goals as goal

pub loop-at-preserved : goal.loop-at-preserved
loop-at-preserved c =
    let a = c.args in
    let v = c.loop-at.invariant.0 in (
      (omega (arith, c.pen-r.auto.ram, v.0), omega (arith, c.pen-r.auto.journal, v.1)),
      pen-next a.lines.now a.today.now a.last_good.now a.setup.now c.loop-at.at c.line_end-end.result _ c.pen-r.result _ _
          c.loop-at-test.true c.line_end-end.ensures.value
          (headed-pen _ a.today.now a.today_heads.now a.last_good.now a.last_heads.now a.setup.now _ c.requires.0 c.requires.1 ∙ c.pen-r.ensures)
          ∙ c.loop-at.invariant.1,
    )

pub returns : goal.returns
returns c =
    let a = c.args in
    sym (pens-done a.lines.now a.today.now a.last_good.now a.setup.now c.loop-at.at _ (omega (arith, c.loop-at-test.false)))
    ∙ c.loop-at.invariant.1
