-- Q-9's call: its refusals, the run, the hits counted in the list and the entry that is named.
use Rattle.std.specs.Prelude.{ℕ, zero, suc, true, cond, List, map, leb, length}
use Rattle.bus.specs.declared.state.Cpu.{Cpu}
use Rattle.history.specs.Trace.{Answer, answers}
use Rattle.history.specs.Ring.{Ring}
use Rattle.calls.specs.Calls.{W, check_of}
use Rattle.entries.specs.Entries.{meets, marked, place_of, all_known}
use Rattle.entries.specs.declared.Entry.{Entry}
use Rattle.entries.specs.declared.Met.{Met}
use Rattle.watching.specs.Watched.{Stop, nothing, placed, run_cause, goes}
use Rattle.watching.specs.declared.Ending.{Ending}
use Rattle.watching.specs.declared.Ending.TheVariants.{Refused}

-- the answer: its number (0: accepted), the steps done, the sum of their bus bytes, why it stopped, which entries the stop meets, the place of the one
-- that is named, all that is there afterwards, and the list
pub record Watched : Type 0 where
  pub number : ℕ
  pub steps : ℕ
  pub bus : ℕ
  pub ending : Ending
  pub met : Met
  pub place : ℕ
  pub world : W
  pub list : List Entry

-- "the run marks each entry's hits in that list"
abbrev pub told : Stop → List Entry → Watched
told s l =
    record {
      number = 0;
      steps = s.steps;
      bus = s.bus;
      ending = s.ending;
      met = s.met;
      place = placed s.ending (place_of (meets s.met) l);
      world = s.world;
      list = marked s.met l;
    }

abbrev pub refused : ℕ → W → List Entry → Watched
refused n w l = record { number = n; steps = 0; bus = 0; ending = Refused; met = nothing; place = 0; world = w; list = l }

-- "40 too many entries, 41 unknown kind"
abbrev pub list_check : List Entry → ℕ
list_check l = cond (leb (length l) 64) (cond (all_known (map (λ (e : Entry). e.kind) l)) 0 41) 40

-- "Refusals, after 1 to 3"
abbrev pub or_else : ℕ → ℕ → ℕ
or_else zero n = n
or_else (suc m) n = suc m

-- ".. the list unchanged"
abbrev pub unless_refused : ℕ → W → List Entry → Watched → Watched
unless_refused zero w l a = a
unless_refused (suc n) w l a = refused (suc n) w l

unfoldable pub watched_of : ℕ → List Entry → W → Watched
watched_of budget l w = unless_refused (or_else (check_of w) (list_check l)) w l (told (goes budget true l w) l)

-- the answer as a run's, but for why it stopped: a watch and a break may leave steps of the budget
abbrev pub as_run : Watched → Answer Cpu Ring
as_run a = answers a.number a.steps a.bus (run_cause a.ending) a.world
