-- How the code's answer to a watched run stands for the rules' own.
use Rattle.std.specs.Prelude.{ℕ, ◌≡◌, List, Result, Ok, Err, map}
use Rattle.calls.specs.Calls.{number_of as number_of_check, world_of}
use Rattle.calls.specs.declared.state.Machine.{Machine as MachineT}
use Rattle.entries.specs.Code.{bare, points}
use Rattle.entries.specs.declared.Entry.{Entry}
use Rattle.entries.specs.declared.Points.{Points}
use Rattle.watching.specs.Watched.{Stop, nothing}
use Rattle.watching.specs.Code.{tells_of, stop_of}
use Rattle.watching.specs.declared.Ending.TheVariants as Ending
use Rattle.watching.specs.declared.Told.{Told}
use Rattle.watched.specs.Answer.{Watched, watched_of}
use Rattle.watched.specs.declared.Refusal.{Refusal}
use Rattle.watched.specs.declared.Stopped.{Stopped}
use Rattle.watched.specs.declared.Watched.{Watched as WatchedT}

-- a list by value without the hits of its entries: a list's hits steer no run
abbrev pub bared : Points → Points
bared p = points p.count (map bare p.entries)

-- the paper's number for each refusal
abbrev pub number_of : Refusal → ℕ
number_of (Refusal.Check why) = number_of_check why
number_of Refusal.TooMany = 40
number_of Refusal.UnknownKind = 41

-- what was checked, as a number: that of the refusal, or 0
abbrev pub checked : {T : Type 0} → Result T Refusal → ℕ
checked (Ok t) = 0
checked (Err why) = number_of why

abbrev pub answered : ℕ → Told → MachineT → WatchedT
answered n t m = record { number = n; told = t; machine = m }

-- a refusal as the code has it
abbrev pub refuse : MachineT → ℕ → WatchedT
refuse m n = answered n (tells_of 0 0 Ending.Refused nothing 0) m

-- a run that was accepted
abbrev pub stopped_as : Stopped → List ℕ → List ℕ → Stop
stopped_as r ram ws = stop_of r.told (world_of r.machine ram ws)

abbrev pub answer_as : WatchedT → List ℕ → List ℕ → List Entry → Watched
answer_as r ram ws l =
    let t = r.told in
    record { number = r.number; steps = t.steps; bus = t.bus; ending = t.ending; met = t.met; place = t.place; world = world_of r.machine ram ws; list = l }

-- what the call promises: of machine, RAM, journal and list before, and of its answer, RAM, journal and list after
abbrev pub Watches : ℕ → MachineT → List ℕ → List ℕ → List Entry → WatchedT → List ℕ → List ℕ → List Entry → Type 0
Watches budget m ram ws l r ram' ws' l' = watched_of budget l (world_of m ram ws) ≡ answer_as r ram' ws' l'
