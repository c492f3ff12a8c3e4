use mathlib.Core.Path.{sym, ◌∙◌}
use Rattle.watched.proofs.Answering.{check-long, check-kinds}
use Rattle.watched.proofs.list_check.Goals as goal

pub returns-then-list-gt64 : goal.returns-then-list-gt64
returns-then-list-gt64 c = check-long c.args.list.now c.if-list-gt64.true

pub returns-then-known : goal.returns-then-known
returns-then-known c = check-kinds c.args.list.now _ c.if-list-gt64.false (sym c.known.ensures ∙ c.if-known.true)

pub returns : goal.returns
returns c = check-kinds c.args.list.now _ c.if-list-gt64.false (sym c.known.ensures ∙ c.if-known.false)
