-- A plain run from one by an empty list, and a lone step from a run of one.
use Prim.Native.Nat.{ℕ, zero, suc}
use mathlib.Core.Path.{◌≡◌, refl, sym, ◌∙◌, ap}
use mathlib.Core.Bool.{true, false}
use mathlib.Core.List.{List, []}
use native.Mathlib.Nat.{add-zero}
use Rattle.bus.specs.declared.state.Cpu.{Cpu}
use Rattle.bus.specs.declared.state.Stretch.{Stretch}
use Rattle.cpu.specs.Step.{step_of}
use Rattle.history.specs.Trace.{Next, refuses, gives, no_run, Answer, answers, Cause, give, cause_of, stepped, ran}
use Rattle.history.specs.Ring.{Ring}
use Rattle.calls.specs.Inputs.{step, next_of, box, machine}
use Rattle.calls.specs.Calls.{W, cause_is, journal_of, went, plain_of, world_of}
use Rattle.calls.specs.declared.state.Machine.{Machine as MachineT}
use Rattle.calls.proofs.Giving.{step-goes}
use Rattle.calls.proofs.Answering.{given}
use Rattle.watching.specs.Watched.{Stop, run_cause, goes, as_ran}
use Rattle.watching.specs.Code.{ended_as}
use Rattle.watching.specs.declared.Ended.{Ended}
use Rattle.watching.proofs.Beside.{goes-empty}
use Rattle.running.specs.Code.{stop_from}

-- by the journal of any protected addresses
module _ (p : Stretch) where
  abbrev runs : ℕ → W → Answer Cpu Ring
  runs n w = ran machine (journal_of p) n w

  -- a run by an empty list is the plain run
  pub unwatched : (n : ℕ) (w : W) (s : Stop) → goes n true [] w ≡ s → runs n w ≡ as_ran s
  unwatched n w s e = sym (goes-empty p n true w) ∙ ap as_ran e

  -- a run stops for one of the code's two causes
  caused : (n : ℕ) (w : W) → cause_is (stop_from (runs n w).cause) ≡ (runs n w).cause
  caused zero w = go (next_of step w.box)
    where
      go : (x : Next Cpu) → cause_is (stop_from (cause_of machine (journal_of p) x)) ≡ cause_of machine (journal_of p) x
      go (refuses m) = refl
      go (gives e) = refl
  caused (suc n) w = go (caused n) (next_of step w.box)
    where
      go : ((v : W) → cause_is (stop_from (runs n v).cause) ≡ (runs n v).cause) → (x : Next Cpu)
          → cause_is (stop_from (stepped machine (journal_of p) (runs n) w x).cause) ≡ (stepped machine (journal_of p) (runs n) w x).cause
      go h (refuses m) = refl
      go h (gives e) = h (went w e)

  pub told : (n : ℕ) (w : W) (r : Ended) (g k m ws : List ℕ) → let s = ended_as r g k m ws in
      runs n w ≡ as_ran s → runs n w ≡ answers 0 s.steps s.bus (cause_is (stop_from (run_cause s.ending))) s.world
  told n w r g k m ws e =
      let s = ended_as r g k m ws in
      let c : run_cause s.ending ≡ cause_is (stop_from (run_cause s.ending)) =
      sym (ap (λ (a : Answer Cpu Ring). cause_is (stop_from a.cause)) (sym e) ∙ caused n w ∙ ap (λ (a : Answer Cpu Ring). a.cause) e)
      in
      e ∙ ap (λ (x : Cause). answers 0 s.steps s.bus x s.world) c

-- a lone step, from a run of one
pub alone : (m : MachineT) (ram ws : List ℕ) (r : Ended) (g k ram' ws' : List ℕ) → m.cpu.board.halted ≡ false → let s = ended_as r g k ram' ws' in
    runs m.cpu.board.stretch 1 (world_of m ram ws) ≡ as_ran s → plain_of (give step) (world_of m ram ws) ≡ answers 0 1 s.bus no_run s.world
alone m ram ws r g k ram' ws' h e =
    let x = step_of m.cpu ram in
    let q = step-goes (box m.cpu ram) h in
    given m ram ws step (gives x) q
    ∙ ap (λ (b : ℕ). answers 0 1 b no_run (went (world_of m ram ws) x)) (sym (add-zero x.bus))
    ∙ ap (λ (a : Answer Cpu Ring). answers 0 1 a.bus no_run a.world) (rw q at e)
