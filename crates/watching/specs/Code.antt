-- How what the code of a watched run leaves stands for what the rules answer.
use Rattle.std.specs.Prelude.{ℕ, Bool, cond, ◌≡◌, List}
use Rattle.calls.specs.Calls.{W}
use Rattle.bus.specs.State.{cpu}
use Rattle.bus.specs.declared.state.Stretch.{Stretch}
use Rattle.recording.specs.Code.{standing}
use Rattle.entries.specs.Entries.{met_at, meets, place_of}
use Rattle.entries.specs.declared.Entry.{Entry}
use Rattle.entries.specs.declared.Met.{Met}
use Rattle.watching.specs.Watched.{Stop, stops, placed, landed}
use Rattle.watching.specs.declared.Ending.{Ending}
use Rattle.watching.specs.declared.Told.{Told}
use Rattle.watching.specs.declared.Ended.{Ended}

abbrev pub tells_of : ℕ → ℕ → Ending → Met → ℕ → Told
tells_of s b c x p = record { steps = s; bus = b; ending = c; met = x; place = p }

-- the end of a step that stored to a watched address
abbrev pub caught_as : ℕ → ℕ → Met → ℕ → Bool → Told
caught_as s b x p h = cond h (tells_of s b Ending.Halted x 0) (tells_of s b Ending.Watch x p)

abbrev pub stop_of : Told → W → Stop
stop_of t w = stops t.steps t.bus t.ending t.met w

abbrev pub ended_as : Ended → List ℕ → List ℕ → List ℕ → List ℕ → Stop
ended_as r g k ram ws = stop_of r.told (standing (cpu g k r.board) r.place ram ws)

-- what is looked for after a step, unless none can be met
abbrev pub sought_after : Bool → Stretch → ℕ → ℕ → ℕ → Met
sought_after skip p m n a = cond skip (met_at 2 0 a) (landed p m n a)

-- the entry that is named
abbrev pub Names : Told → List Entry → Type 0
Names t l = t.place ≡ placed t.ending (place_of (meets t.met) l)
