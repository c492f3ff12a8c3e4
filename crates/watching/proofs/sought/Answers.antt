use Rattle.watching.proofs.Turns.{sought-empty}
use Rattle.watching.proofs.sought.Goals as goal

pub returns-then-list-eq0 : goal.returns-then-list-eq0
returns-then-list-eq0 c = let a = c.args in
    sought-empty a.skip _ a.list.now c.if-list-eq0.true
