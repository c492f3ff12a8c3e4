use Rattle.std.proofs.Common.{◌≡◌, ◌+◌, ◌≤◌, length, take}
use Rattle.console.specs.Rows.{Longer}
use Rattle.console.proofs.rows.Row.put_all.Given as goal

abbrev pub invariant-loop-b : goal.invariant-loop-b
invariant-loop-b l = (length l.self.room.now ≡ length l.initial.self.room.now)
    × (l.initial.self.filled + length l.bytes ≤ length l.initial.self.room.now → Longer (take l.b-index l.bytes) l.initial.self.filled l.initial.self.room.now l.self.filled l.self.room.now)
