use mathlib.Core.Path.{◌∙◌}
use Rattle.watched.proofs.run_list.Goals as goal

pub returns : goal.returns
returns c = record { whole_run = (rw c.place_of.ensures at (c.advance-e.ensures.whole_run c.table-table.ensures)) ∙ rw c.machine_of.ensures; names = c.advance-e.ensures.names }
