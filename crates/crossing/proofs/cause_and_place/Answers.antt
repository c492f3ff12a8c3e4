use native.Mathlib.Omega.{arith}
use Rattle.crossing.proofs.Results.{small}
use Rattle.crossing.proofs.cause_and_place.Goals as goal

pub overflow_add-result : goal.overflow_add-result
overflow_add-result c = omega (arith, c.cause.ensures, small c.args.ending)
