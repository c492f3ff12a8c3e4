-- How the code's answer to a pen stands for the rules' own.
use Rattle.std.specs.Prelude.{List, ℕ, Option, Result, Ok, Err}
use Rattle.calls.specs.Calls.{W, world_of, number_of}
use Rattle.manifests.specs.Manifests.{name_of}
use Rattle.manifests.specs.Code.{held_from}
use Rattle.manifests.specs.declared.Held.{Held}
use Rattle.watching.specs.declared.Ending.TheVariants as Ending
use Rattle.watched.specs.declared.Watched.{Watched as WatchedT}
use Rattle.bus.specs.State.{word}
use Rattle.pens.specs.Pen.{Penned, pen_named}
use Rattle.utf8.specs.declared.Unfit.TheVariants.{NotUtf8, NotLatin}
use Rattle.pens.specs.declared.checking.Refusal.{Refusal}
use Rattle.pens.specs.declared.checking.Refusal.TheVariants.{Machine, NotHeld, Name, NoRoom}
use Rattle.calls.specs.declared.state.Machine.{Machine as MachineT}
use Rattle.pens.specs.declared.Report.{Report}

-- a pen by its line, looked up from heads; with the manifests' own, or without any, it is `pen_of` (`headed-pen`)
unfoldable pub pen_from : List ℕ → List ℕ → List ℕ → List ℕ → List ℕ → List ℕ → W → Penned
pen_from line today heads last more setup w = let h = held_from line today heads last more in pen_named h (name_of today last h) setup w

-- the number that the rules give a refusal
abbrev pub refusal_number : Refusal → ℕ
refusal_number (Machine why) = number_of why
refusal_number NotHeld = 83
refusal_number (Name NotUtf8) = 80
refusal_number (Name NotLatin) = 81
refusal_number NoRoom = 82

-- what was checked, as a number: that of the refusal, or 0
abbrev pub number_in : {T : Type 0} → Result T Refusal → ℕ
number_in (Ok t) = 0
number_in (Err why) = refusal_number why

abbrev pub report_as : Report → List ℕ → List ℕ → Penned
report_as r ram ws =
    record {
      number = r.number;
      held = r.held;
      r0 = r.r0;
      steps = r.steps;
      bus = r.bus;
      ending = r.ending;
      world = world_of r.machine ram ws;
    }

-- a refusal as the code has it
abbrev pub refuse : MachineT → Option Held → ℕ → Report
refuse m h n = record { number = n; held = h; r0 = 0; steps = 0; bus = 0; ending = Ending.Refused; machine = m }

-- what a run tells of a pen, as the code has it
abbrev pub report_of : Option Held → WatchedT → Report
report_of h r =
    let t = r.told in
    record {
      number = 0;
      held = h;
      r0 = word r.machine.cpu.regs 0;
      steps = t.steps;
      bus = t.bus;
      ending = t.ending;
      machine = r.machine;
    }
