-- Q-9: a run that goes by a list of breaks and watches. "It stops before a step that starts with pc at a break address, the first step of a run
-- excepted, and after any step that stored to a watched address"; "Where causes meet, the order is halted, watch, budget, break".
use Rattle.std.specs.Prelude.{ℕ, zero, suc, ◌+◌, Bool, false, cond, not, ◌&&◌, List, length}
use Rattle.word.specs.Word.{above}
use Rattle.names.specs.Names.{PC}
use Rattle.bus.specs.State.{word}
use Rattle.bus.specs.Addresses.{dropped}
use Rattle.bus.specs.declared.state.Cpu.{Cpu}
use Rattle.bus.specs.declared.state.Stretch.{Stretch}
use Rattle.history.specs.Trace.{Effect, Next, refuses, gives, Cause, no_run, budget, stopped, Answer, answers}
use Rattle.history.specs.Ring.{Ring}
use Rattle.calls.specs.Inputs.{step, next_of}
use Rattle.calls.specs.Calls.{W, went}
use Rattle.entries.specs.Entries.{met_at, meets, any_of}
use Rattle.entries.specs.declared.Entry.{Entry}
use Rattle.entries.specs.declared.Met.{Met}
use Rattle.watching.specs.declared.Ending.{Ending}
use Rattle.watching.specs.declared.Ending.TheVariants.{Refused, Budget, Halted, Watch, Break}

-- a stop: the steps done, the sum of their bus bytes, why, the entries that it meets, and all that is there then
pub record Stop : Type 0 where
  pub steps : ℕ
  pub bus : ℕ
  pub ending : Ending
  pub met : Met
  pub world : W

abbrev pub stops : ℕ → ℕ → Ending → Met → W → Stop
stops s b c x w = record { steps = s; bus = b; ending = c; met = x; world = w }

abbrev pub nothing : Met
nothing = met_at 0 0 0

-- a break's entries, kind 1: at pc, where a step starts
abbrev pub reached : W → Met
reached w = met_at 1 1 (word w.box.cpu.regs PC)

-- a byte stored to the address a, where RAM has m bytes: "a byte dropped under Q-4 is no hit, an ignored one is"
abbrev pub landed_byte : Stretch → ℕ → ℕ → Met
landed_byte p m a = met_at 2 (cond (dropped p m a) 0 1) a

-- of n bytes stored from a on those that are not dropped: they stand side by side, since only the first or the second may be missing
unfoldable pub landed : Stretch → ℕ → ℕ → ℕ → Met
landed p m zero a = met_at 2 0 a
landed p m (suc zero) a = landed_byte p m a
landed p m (suc (suc n)) a = cond (dropped p m a) (landed_byte p m (above a)) (met_at 2 (cond (dropped p m (above a)) 1 2) a)

-- a watch's entries, kind 2: at one of the bytes that the step stored, but for dropped ones
abbrev pub stored : Effect Cpu → Met
stored e = landed e.box.cpu.board.stretch (length e.box.ram) e.count e.first

-- "the first in the list is named": by a watch and by a break; a stop for another cause names none, which counts as 0
abbrev pub placed : Ending → ℕ → ℕ
placed Refused p = 0
placed Budget p = 0
placed Halted p = 0
placed Watch p = p
placed Break p = p

-- the cause in a run's words: a watch and a break may leave steps of the budget
abbrev pub run_cause : Ending → Cause
run_cause Refused = no_run
run_cause Budget = budget
run_cause Halted = stopped
run_cause Watch = budget
run_cause Break = budget

-- one step before a stop
abbrev pub more : Effect Cpu → Stop → Stop
more e x = stops (suc x.steps) (e.bus + x.bus) x.ending x.met x.world

-- the budget is used up; "halted" comes first
abbrev pub spent : W → Next Cpu → Stop
spent w (refuses n) = stops 0 0 Halted nothing w
spent w (gives e) = stops 0 0 Budget nothing w

-- a step stored to a watched address; "halted" comes first here too
abbrev pub caught : Met → W → Next Cpu → Stop
caught x w (refuses n) = stops 0 0 Halted x w
caught x w (gives e) = stops 0 0 Watch x w

-- after a step: a watch, or on
abbrev pub watched : (W → Stop) → List Entry → Effect Cpu → W → Stop
watched on l e w = cond (any_of (meets (stored e)) l) (caught (stored e) w (next_of step w.box)) (on w)

-- before a step: halted, a break, or the step
abbrev pub turn : (W → Stop) → Bool → List Entry → W → Next Cpu → Stop
turn on first l w (refuses n) = stops 0 0 Halted nothing w
turn on first l w (gives e) =
    cond (not first && any_of (meets (reached w)) l) (stops 0 0 Break (reached w) w)
    (more e (watched on l e (went w e)))

-- a run of n steps at most
abbrev pub goes : ℕ → Bool → List Entry → W → Stop
goes zero first l w = spent w (next_of step w.box)
goes (suc n) first l w = turn (goes n false l) first l w (next_of step w.box)

-- a stop as a plain run's answer
abbrev pub as_ran : Stop → Answer Cpu Ring
as_ran s = answers 0 s.steps s.bus (run_cause s.ending) s.world
