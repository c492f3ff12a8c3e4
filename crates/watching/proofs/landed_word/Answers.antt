use mathlib.Core.Path.{sym, ◌∙◌}
use Rattle.watching.specs.Watched.{landed}
use Rattle.watching.proofs.landed_word.Goals as goal

pub returns-then-drops : goal.returns-then-drops
unfolding landed
returns-then-drops c = rw (sym c.drops.ensures ∙ c.if-drops.true, sym c.plus-second.ensures) c.landed_byte.ensures

pub returns-then-drops-2 : goal.returns-then-drops-2
unfolding landed
returns-then-drops-2 c = rw (sym c.drops.ensures ∙ c.if-drops.false, sym c.plus-second.ensures, sym c.drops-2.ensures ∙ c.if-drops-2.true) c.met.ensures

pub returns : goal.returns
unfolding landed
returns c = rw (sym c.drops.ensures ∙ c.if-drops.false, sym c.plus-second.ensures, sym c.drops-2.ensures ∙ c.if-drops-2.false) c.met-2.ensures
