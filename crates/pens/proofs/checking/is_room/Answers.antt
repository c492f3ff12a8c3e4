use Rattle.pens.proofs.Checks.{no_room, room}
use native.Mathlib.Omega.{arith}
use Rattle.pens.proofs.checking.is_room.Goals as goal

pub returns-then-ram-first : goal.returns-then-ram-first
returns-then-ram-first c = let a = c.args in no_room a.at a.n a.ram (omega (arith, c.if-ram-first.true))

pub returns : goal.returns
returns c = let a = c.args in room a.at a.n a.ram (omega (arith, c.if-ram-first.false))
