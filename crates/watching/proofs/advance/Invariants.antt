use Prim.Native.Nat.{◌+◌, ◌*◌, ◌≤◌}
use mathlib.Core.Path.{◌≡◌}
use mathlib.Core.Bool.{true}
use lib.ListN.{length}
use Rattle.isa.specs.Code.{TellsAll}
use Rattle.bus.specs.State.{cpu, board}
use Rattle.recording.specs.Code.{standing}
use Rattle.watching.specs.Watched.{goes}
use Rattle.watching.proofs.Turns.{Going}
use Rattle.watching.proofs.advance.Given as goal

abbrev pub invariant-loop-halted : goal.invariant-loop-halted
invariant-loop-halted l = (l.left ≤ l.budget) × (l.bus + 255 * l.left ≤ 255 * l.budget)
    × (TellsAll l.table → Going l.budget l.list (goes l.budget true l.list (standing (cpu l.initial.regs l.initial.csrs (board l.initial.devices l.initial.halted l.stretch)) l.initial.at l.initial.ram l.initial.journal)) l.left l.bus
    (standing (cpu l.regs l.csrs (board l.devices l.halted l.stretch)) l.at l.ram l.journal))
    × (length l.ram ≡ length l.initial.ram) × (length l.journal ≡ length l.initial.journal)

abbrev pub decreases-loop-halted : goal.decreases-loop-halted
decreases-loop-halted l = l.left
