-- How what the code of a run leaves stands for what the rules answer.
use Rattle.std.specs.Prelude.{ℕ}
use Rattle.bus.specs.declared.state.Cpu.{Cpu}
use Rattle.history.specs.Trace.{Cause, no_run, budget, stopped}
use Rattle.history.specs.declared.Place.{Place}
use Rattle.calls.specs.declared.state.Stop.{Stop}
use Rattle.calls.specs.declared.state.Stop.TheVariants.{Halted, Budget}
use Rattle.calls.specs.declared.state.Run.{Run}
use Rattle.calls.specs.declared.state.Machine.{Machine as MachineT}

-- a run as the code has it
abbrev pub run_told : ℕ → ℕ → Stop → Run
run_told s b t = record { steps = s; bus = b; stop = t }

-- a run's cause as the code has it; a run by an empty list stops for one of the two
abbrev pub stop_from : Cause → Stop
stop_from no_run = Budget
stop_from budget = Budget
stop_from stopped = Halted

abbrev pub machine_at : Cpu → Place → MachineT
machine_at c p = record { cpu = c; next = p.next; held = p.held }

abbrev pub place_in : MachineT → Place
place_in m = record { next = m.next; held = m.held }
