-- Cutting a run is harmless.
use Prim.Native.Nat.{ℕ, zero, suc, ◌+◌}
use mathlib.Core.Path.{◌≡◌, refl, sym, ◌∙◌, ap}
use mathlib.Core.List.{List}
use Rattle.bus.specs.declared.state.Cpu.{Cpu}
use Rattle.bus.specs.declared.state.Stretch.{Stretch}
use Rattle.history.specs.Trace.{Answer, answers, run, guarded, ran}
use Rattle.history.specs.Ring.{Ring}
use Rattle.history.proofs.Runs.{number-ran, ran-cut}
use Rattle.calls.specs.Inputs.{machine}
use Rattle.calls.specs.Calls.{W, check_of, answer_of, world_of, replied, stretch_of, journal_of}
use Rattle.calls.specs.declared.state.Machine.{Machine as MachineT}
use Rattle.watching.proofs.Beside.{any-journal}
use Rattle.exact.proofs.Single.{world-back}
use Rattle.pens_exact.specs.Cut.{Typed, summed, Cuts, CutsCalls}
use Rattle.pens_exact.proofs.Passing.{checked, passes, runs_on}

module _ (n m : ℕ) (w : W) where
  -- the plain run by the journal of these protected addresses
  abbrev runs : Stretch → ℕ → W → Answer Cpu Ring
  runs p k v = ran machine (journal_of p) k v

  abbrev p : Stretch
  p = stretch_of w

  -- the answers where the first check of the first call is c, and of the second d
  abbrev cut_by : ℕ → ℕ → Type 0
  cut_by c d =
      let a = guarded c w (runs p n w) in
      guarded c w (runs p (n + m) w) ≡ summed a (guarded d a.world (runs (stretch_of a.world) m a.world))

  accepted : cut_by 0 0
  accepted =
      let v = (runs p n w).world in
      ran-cut machine (journal_of p) n m w
      ∙ ap (λ (k : ℕ). answers k ((runs p n w).steps + (runs p m v).steps) ((runs p n w).bus + (runs p m v).bus) (runs p m v).cause (runs p m v).world)
      (sym (number-ran machine (journal_of p) m v))
      ∙ ap (summed (runs p n w)) (any-journal p (stretch_of v) m v)

  refused : (c : ℕ) → cut_by (suc c) (suc c)
  refused c = refl

  pub cut : Typed w.box.cpu w.box.ram → Cuts n m w
  cut y = go (check_of w) refl
    where
      go : (c : ℕ) → check_of w ≡ c → Cuts n m w
      go zero e =
          let h = runs_on p n w (checked w y e) in
          rw (e, passes (runs p n w).world h) accepted
      go (suc c) e = rw (e, e) (refused c)

pub cut-calls : (n m : ℕ) (k : MachineT) (ram ws : List ℕ) → Typed k.cpu ram → CutsCalls n m k ram ws
cut-calls n m k ram ws y a ram₁ ws₁ b ram₂ ws₂ c ram₃ ws₃ few ka kb kc =
    let first = replied a ram₁ ws₁ in
    let told : replied c ram₃ ws₃ ≡ summed first (replied b ram₂ ws₂) =
    sym kc ∙ cut n m (world_of k ram ws) y
    ∙ ap (λ (x : Answer Cpu Ring). summed x (answer_of (run m) x.world)) ka
    ∙ ap (λ (w : W). summed first (answer_of (run m) w)) (world-back a.answer (world_of a.machine ram₁ ws₁))
    ∙ ap (summed first) kb
    in
    let left : world_of c.machine ram₃ ws₃ ≡ world_of b.machine ram₂ ws₂ =
    sym (world-back c.answer (world_of c.machine ram₃ ws₃)) ∙ ap (λ (x : Answer Cpu Ring). x.world) told
    ∙ world-back b.answer (world_of b.machine ram₂ ws₂)
    in
    record {
      told = told;
      machine = ap machine_in left;
      ram = ap (λ (w : W). w.box.ram) left;
      words = ap (λ (w : W). w.journal.words) left;
    }
  where
    machine_in : W → MachineT
    machine_in w = record { cpu = w.box.cpu; next = w.journal.next; held = w.journal.held }
