-- How the code's struct stands for what a record says.
use Rattle.bus.specs.declared.state.Cpu.{Cpu}
use Rattle.history.specs.Trace.{Undo}
use Rattle.records.specs.declared.Before.{Before}

abbrev pub undo_as : Before → Undo Cpu
undo_as b = record { cpu = b.cpu; count = b.count; first = b.first; low = b.low; high = b.high }
