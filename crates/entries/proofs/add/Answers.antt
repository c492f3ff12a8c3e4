use borrow.Author.Tests.{lt-ltb, le-ltb}
use Rattle.entries.specs.Code.{added}
use Rattle.entries.proofs.add.Goals as goal

pub returns-then-n-lt64 : goal.returns-then-n-lt64
unfolding added
returns-then-n-lt64 c = rw (lt-ltb _ _ c.if-n-lt64.true)

pub returns : goal.returns
unfolding added
returns c = rw (le-ltb _ _ c.if-n-lt64.false)
