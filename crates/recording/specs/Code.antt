-- How what the code of one recorded step leaves stands for what the rules answer.
use Rattle.std.specs.Prelude.{ℕ, cond, List, eqb}
use Rattle.bus.specs.State.{cpu}
use Rattle.bus.specs.declared.state.Cpu.{Cpu}
use Rattle.cpu.specs.Step.{step_of}
use Rattle.history.specs.Ring.{ring_of}
use Rattle.history.specs.Code.{amended}
use Rattle.history.specs.declared.Place.{Place}
use Rattle.calls.specs.Inputs.{box}
use Rattle.calls.specs.Calls.{W, went}
use Rattle.recording.specs.declared.Recorded.{Recorded}

-- state, next slot and records held, RAM and journal words
abbrev pub standing : Cpu → Place → List ℕ → List ℕ → W
standing c p ram ws = record { box = box c ram; journal = ring_of ws p.next p.held }

-- words 25 to 27 of a record, after the step; they are 0 before it
abbrev pub noted : List ℕ → ℕ → ℕ → ℕ → ℕ → List ℕ
noted ws k n a old = cond (eqb n 0) ws (amended ws k 25 n a old)

-- one recorded step: what stands afterwards, the bytes written through memory, their first address, the bus bytes
pub record Turn : Type 0 where
  pub world : W
  pub count : ℕ
  pub first : ℕ
  pub bus : ℕ

abbrev pub turn_of : W → Turn
turn_of w =
    let x = step_of w.box.cpu w.box.ram in
    record { world = went w x; count = x.count; first = x.first; bus = x.bus }

abbrev pub turn_as : Recorded → List ℕ → List ℕ → List ℕ → List ℕ → Turn
turn_as r g k ram ws =
    record { world = standing (cpu g k r.board) r.place ram ws; count = r.count; first = r.first; bus = r.bus }
