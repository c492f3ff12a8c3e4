use Rattle.std.proofs.Common.{length}
use Rattle.orders.proofs.stores.all.Given as goal

abbrev pub decreases-loop-word : goal.decreases-loop-word
decreases-loop-word g l = length l.rest
