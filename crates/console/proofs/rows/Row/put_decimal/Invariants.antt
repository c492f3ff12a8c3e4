use Rattle.std.proofs.Common.{◌≡◌, length}
use Rattle.console.proofs.rows.Row.put_decimal.Given as goal

abbrev pub invariant-loop : goal.invariant-loop
invariant-loop l = length l.self.room.now ≡ length l.initial.self.room.now
