-- A watched run beside the plain run: its steps are the plain run's, with an empty list it is the plain run, and a stop loses nothing.
use Prim.Native.Nat.{ℕ, zero, suc, ◌+◌, ◌-◌, ◌≤◌}
use mathlib.Core.Path.{◌≡◌, refl, sym, ◌∙◌, ap}
use mathlib.Core.Bool.{Bool, true, false, cond, not, ◌&&◌}
use mathlib.Core.List.{List, []}
use native.Mathlib.Omega.{arith}
use Rattle.bus.specs.declared.state.Cpu.{Cpu}
use Rattle.bus.specs.declared.state.Stretch.{Stretch}
use Rattle.history.specs.Trace.{Effect, Next, refuses, gives, Answer, answers, cause_of, stepped, ran}
use Rattle.history.specs.Ring.{Ring}
use Rattle.history.proofs.Runs.{ran-cut}
use Rattle.calls.specs.Inputs.{step, next_of, machine}
use Rattle.calls.specs.Calls.{W, journal_of, went}
use Rattle.entries.specs.Entries.{meets, any_of}
use Rattle.entries.specs.declared.Entry.{Entry}
use Rattle.entries.specs.declared.Met.{Met}
use Rattle.watching.specs.Watched.{Stop, stops, reached, stored, more, spent, caught, watched, turn, as_ran, goes}
use Rattle.watching.specs.declared.Ending.TheVariants.{Break}

-- an answer after so many steps and bus bytes
abbrev pub summed : ℕ → ℕ → Answer Cpu Ring → Answer Cpu Ring
summed s b a = answers 0 (s + a.steps) (b + a.bus) a.cause a.world

-- ---- at most as many as the budget
watched-few : (n : ℕ) (on : W → Stop) (l : List Entry) (e : Effect Cpu) (w : W) → ((v : W) → (on v).steps ≤ n) → (watched on l e w).steps ≤ n
watched-few n on l e w h = go (any_of (meets (stored e)) l)
  where
    end : (y : Next Cpu) → (caught (stored e) w y).steps ≤ n
    end (refuses m) = omega arith
    end (gives d) = omega arith

    go : (t : Bool) → (cond t (caught (stored e) w (next_of step w.box)) (on w)).steps ≤ n
    go true = end (next_of step w.box)
    go false = h w

turn-few : (n : ℕ) (on : W → Stop) (first : Bool) (l : List Entry) (w : W) (x : Next Cpu) → ((v : W) → (on v).steps ≤ n) → (turn on first l w x).steps ≤ suc n
turn-few n on first l w (refuses m) h = omega arith
turn-few n on first l w (gives e) h = go (not first && any_of (meets (reached w)) l)
  where
    go : (t : Bool) → (cond t (stops 0 0 Break (reached w) w) (more e (watched on l e (went w e)))).steps ≤ suc n
    go true = omega arith
    go false = let f = watched-few n on l e (went w e) h in omega (arith, f)

pub goes-few : (n : ℕ) (first : Bool) (l : List Entry) (w : W) → (goes n first l w).steps ≤ n
goes-few zero first l w = end (next_of step w.box)
  where
    end : (x : Next Cpu) → (spent w x).steps ≤ 0
    end (refuses m) = omega arith
    end (gives e) = omega arith
goes-few (suc n) first l w = turn-few n (goes n false l) first l w (next_of step w.box) (goes-few n false l)

-- ---- an empty list meets nothing
empty-some : (f : Entry → Bool) → any_of f [] ≡ false
unfolding any_of
empty-some f = refl

unmet : (t : Bool) → (t && false) ≡ false
unmet true = refl
unmet false = refl

-- of the journal a run only asks what a push leaves: so p may be any protected addresses
module _ (p : Stretch) where
  abbrev runs : ℕ → W → Answer Cpu Ring
  runs n w = ran machine (journal_of p) n w

  -- ---- the steps before any stop are those of the plain run
  pub record Runs (w : W) (s : Stop) : Type 0 where
    pub steps : (runs s.steps w).steps ≡ s.steps
    pub bus : (runs s.steps w).bus ≡ s.bus
    pub world : (runs s.steps w).world ≡ s.world

  at_once : (w : W) (s : Stop) → s.steps ≡ 0 → s.bus ≡ 0 → s.world ≡ w → Runs w s
  at_once w s a b c = record { steps = rw a; bus = rw (a, b); world = rw (a, c) }

  spent-runs : (w : W) (x : Next Cpu) → Runs w (spent w x)
  spent-runs w (refuses n) = at_once w (spent w (refuses n)) refl refl refl
  spent-runs w (gives e) = at_once w (spent w (gives e)) refl refl refl

  caught-runs : (x : Met) (w : W) (y : Next Cpu) → Runs w (caught x w y)
  caught-runs x w (refuses n) = at_once w (caught x w (refuses n)) refl refl refl
  caught-runs x w (gives e) = at_once w (caught x w (gives e)) refl refl refl

  more-runs : (w : W) (e : Effect Cpu) (s : Stop) → next_of step w.box ≡ gives e → Runs (went w e) s → Runs w (more e s)
  more-runs w e s q r = record { steps = rw (q, r.steps); bus = rw (q, r.bus); world = rw (q, r.world) }

  watched-runs : (on : W → Stop) (l : List Entry) (e : Effect Cpu) (w : W) → ((v : W) → Runs v (on v)) → Runs w (watched on l e w)
  watched-runs on l e w h = go (any_of (meets (stored e)) l)
    where
      go : (t : Bool) → Runs w (cond t (caught (stored e) w (next_of step w.box)) (on w))
      go true = caught-runs (stored e) w (next_of step w.box)
      go false = h w

  turn-runs : (on : W → Stop) (first : Bool) (l : List Entry) (w : W) → ((v : W) → Runs v (on v)) → (x : Next Cpu) → next_of step w.box ≡ x → Runs w (turn on first l w x)
  turn-runs on first l w h (refuses n) q = at_once w (turn on first l w (refuses n)) refl refl refl
  turn-runs on first l w h (gives e) q = go (not first && any_of (meets (reached w)) l)
    where
      s : Bool → Stop
      s t = cond t (stops 0 0 Break (reached w) w) (more e (watched on l e (went w e)))

      go : (t : Bool) → Runs w (s t)
      go true = at_once w (s true) refl refl refl
      go false = more-runs w e (watched on l e (went w e)) q (watched-runs on l e (went w e) h)

  pub goes-runs : (n : ℕ) (first : Bool) (l : List Entry) (w : W) → Runs w (goes n first l w)
  goes-runs zero first l w = spent-runs w (next_of step w.box)
  goes-runs (suc n) first l w = turn-runs (goes n false l) first l w (goes-runs n false l) (next_of step w.box) refl

  -- ---- a stop loses nothing: the plain run with the budget that is left ends where one plain run with the whole budget does, with the summed counts
  pub goes_on : (n : ℕ) (first : Bool) (l : List Entry) (w : W) → let s = goes n first l w in
      runs n w ≡ summed s.steps s.bus (runs (n - s.steps) s.world)
  goes_on n first l w =
      let s = goes n first l w in
      let r = goes-runs n first l w in
      let e : s.steps + (n - s.steps) ≡ n = omega (arith, goes-few n first l w) in
      ap (λ (k : ℕ). runs k w) (sym e) ∙ ran-cut machine (journal_of p) s.steps (n - s.steps) w ∙ rw (r.steps, r.bus, r.world)

  -- ---- with an empty list it is the run
  pub goes-empty : (n : ℕ) (first : Bool) (w : W) → as_ran (goes n first [] w) ≡ runs n w
  goes-empty zero first w = end (next_of step w.box)
    where
      end : (x : Next Cpu) → as_ran (spent w x) ≡ answers 0 0 0 (cause_of machine (journal_of p) x) w
      end (refuses m) = refl
      end (gives e) = refl
  goes-empty (suc n) first w = go (goes-empty n false) (next_of step w.box)
    where
      go : ((v : W) → as_ran (goes n false [] v) ≡ runs n v) → (x : Next Cpu)
          → as_ran (turn (goes n false []) first [] w x) ≡ stepped machine (journal_of p) (runs n) w x
      go h (refuses m) = refl
      go h (gives e) =
          rw (empty-some (meets (reached w)), unmet (not first), empty-some (meets (stored e)))
          (ap (λ (a : Answer Cpu Ring). answers 0 (suc a.steps) (e.bus + a.bus) a.cause a.world) (h (went w e)))

-- so a run is the same by the journal of any protected addresses
pub any-journal : (p q : Stretch) (n : ℕ) (w : W) → ran machine (journal_of p) n w ≡ ran machine (journal_of q) n w
any-journal p q n w = sym (goes-empty p n true w) ∙ goes-empty q n true w
