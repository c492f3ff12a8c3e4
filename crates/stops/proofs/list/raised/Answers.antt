use Rattle.stops.proofs.Rows.{rise}
use Rattle.stops.proofs.list.raised.Goals as goal

pub returns : goal.returns
returns c = rw c.mark.ensures (rise c.args.x c.args.s.count c.args.s.entries)
