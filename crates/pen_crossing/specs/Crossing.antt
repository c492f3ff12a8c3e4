-- Q-14 over the C boundary: the state as 32 words, and a pen's answer as one number of 64 bits.
use Rattle.std.specs.Prelude.{ℕ, ◌≡◌, List}
use Rattle.bus.specs.declared.state.Cpu.{Cpu}
use Rattle.history.specs.Trace.{Answer, answers, no_run}
use Rattle.history.specs.Ring.{Ring}
use Rattle.calls.specs.Calls.{world_of}
use Rattle.boundary.specs.Boundary.{taken, packed, Crossed, leaves, crossed}
use Rattle.crossing.specs.Crossing.{ending_number}
use Rattle.pens.specs.Pen.{Penned, pen_of}

-- "Bits 0–15 the number (1, 2, 3, then 6, then 83, 80, 81, 82), bits 16–31 r0, bits 32–55 the run's bus bytes, bits 56–57 its cause as in Q-9 (3: stopped at
-- the address)"
abbrev pub pen_result : Penned → ℕ
pen_result a = packed a.number a.r0 a.bus (ending_number a.ending)

-- a pen's answer as a call's, for what it leaves
abbrev pub as_call : Penned → Answer Cpu Ring
as_call a = answers a.number a.steps a.bus no_run a.world

-- "On acceptance the words are rewritten; on a refusal all 32 stay as given."
unfoldable pub crossed_pen : List ℕ → Penned → Crossed
crossed_pen w a = let x = crossed w (as_call a) in leaves (pen_result a) x.words x.ram x.journal

-- what the export promises: words to machine, the pen, machine to words
abbrev pub CrossesPen : List ℕ → List ℕ → List ℕ → List ℕ → List ℕ → List ℕ → List ℕ → ℕ → List ℕ → List ℕ → List ℕ → Type 0
CrossesPen line today last setup w ram ws r w' ram' ws' = crossed_pen w (pen_of line today last setup (world_of (taken w) ram ws)) ≡ leaves r w' ram' ws'
