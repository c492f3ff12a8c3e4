use Rattle.manifests.specs.Code.{held_from}
use Rattle.manifests.proofs.find.Goals as goal

pub returns-in_err-number : goal.returns-in_err-number
unfolding held_from
returns-in_err-number c = rw (← c.read_number.ensures, c.in_err-number.was) c.from_residual.ensures

pub returns-in-Some : goal.returns-in-Some
unfolding held_from
returns-in-Some c = rw (← c.read_number.ensures, c.in_ok-number.was, ← c.place.ensures, c.in-Some.is)

pub returns-in_err-part : goal.returns-in_err-part
unfolding held_from
returns-in_err-part c = rw (← c.read_number.ensures, c.in_ok-number.was, ← c.place.ensures, c.in_default.is, ← c.place-2.ensures, c.in_err-part.was) c.from_residual-in_err-part.ensures

pub returns : goal.returns
unfolding held_from
returns c = rw (← c.read_number.ensures, c.in_ok-number.was, ← c.place.ensures, c.in_default.is, ← c.place-2.ensures, c.in_ok-part.was)
