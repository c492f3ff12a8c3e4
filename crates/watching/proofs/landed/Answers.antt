use Rattle.watching.proofs.Turns.{skips, goes_one, goes-two}
use Rattle.watching.proofs.landed.Goals as goal

pub returns-then-skip-count : goal.returns-then-skip-count
returns-then-skip-count c = let a = c.args in
    skips a.skip a.p a.ram a.count a.first _ c.if-skip-count.true c.met.ensures

pub returns-then-count-eq1 : goal.returns-then-count-eq1
returns-then-count-eq1 c = let a = c.args in
    goes_one a.skip a.p a.ram a.count a.first _ c.if-skip-count.false c.if-count-eq1.true c.landed_byte.ensures

pub returns : goal.returns
returns c = let a = c.args in
    goes-two a.skip a.p a.ram a.count a.first _ c.if-skip-count.false c.if-count-eq1.false c.landed_word.ensures
