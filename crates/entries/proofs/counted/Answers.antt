use mathlib.Core.Path.{sym, ◌∙◌}
use borrow.Author.Tests.{lt-ltb, le-ltb}
use Rattle.entries.specs.Entries.{counted}
use Rattle.entries.proofs.counted.Goals as goal

pub returns-then-e-lt65535 : goal.returns-then-e-lt65535
unfolding counted
returns-then-e-lt65535 c = rw (sym c.meets.ensures ∙ c.if-meets.true, lt-ltb _ _ c.if-e-lt65535.true)

pub returns-else-e-lt65535 : goal.returns-else-e-lt65535
unfolding counted
returns-else-e-lt65535 c = rw (sym c.meets.ensures ∙ c.if-meets.true, le-ltb _ _ c.if-e-lt65535.false)

pub returns-else-meets : goal.returns-else-meets
unfolding counted
returns-else-meets c = rw (sym c.meets.ensures ∙ c.if-meets.false)
