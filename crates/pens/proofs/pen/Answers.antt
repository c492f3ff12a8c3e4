use Rattle.pens.proofs.Joined.{by-line}
use Rattle.pens.proofs.pen.Goals as goal

pub returns : goal.returns
returns c = let a = c.args in
    by-line a.line.now a.today.now a.today_heads.now a.last_good.now a.last_heads.now a.setup.now _ c.find-held.result _ _ c.find-held.ensures c.lookup-name.ensures c.pen_named.ensures
