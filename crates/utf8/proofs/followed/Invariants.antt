use Rattle.std.proofs.Common.{◌≡◌, ◌+◌, ◌-◌, ◌*◌, ◌^◌, ◌<◌, ◌≤◌, length, drop}
use Rattle.utf8.specs.Utf8.{followed}
use Rattle.utf8.proofs.followed.Given as goal

abbrev pub invariant-loop-b : goal.invariant-loop-b
invariant-loop-b l =
    (followed (length l.rest + 1) l.point (length l.rest - l.b-index) l.low l.high (drop l.b-index l.rest)
    ≡ followed (length l.rest + 1) l.value (length l.rest) l.least l.greatest l.rest)
    × (l.point < 32 * 64 ^ l.b-index) × (0x80 ≤ l.low) × (l.high ≤ 0xbf)
