-- A watched run stands for a plain run of its own steps: the same world, the same inputs left. So demand 3 takes it as a run.
use Prim.Native.Nat.{ℕ, zero, suc, ◌≤◌}
use mathlib.Core.Path.{◌≡◌, refl}
use mathlib.Core.Bool.{true}
use mathlib.Core.List.{List, map}
use native.Mathlib.Omega.{arith}
use lib.Dec.{leb}
use lib.ListN.{length}
use Rattle.bus.specs.declared.state.Stretch.{Stretch}
use Rattle.bus.proofs.Kept.{picked}
use Rattle.history.specs.Trace.{run, Left, leaves, up_to, guarded, one, ran}
use Rattle.history.proofs.Runs.{number-ran}
use Rattle.calls.specs.Inputs.{Input, step, machine}
use Rattle.calls.specs.Calls.{W, check_of, journal_of}
use Rattle.entries.specs.Entries.{all_known}
use Rattle.entries.specs.declared.Entry.{Entry}
use Rattle.watching.specs.Watched.{goes}
use Rattle.watching.proofs.Beside.{goes-runs, goes-few}
use Rattle.watched.specs.Answer.{Watched, told, list_check, or_else, unless_refused, watched_of}
use Rattle.exact.proofs.Counts.{check-small}
use Rattle.exact.proofs.Played.{P, at}

module _ (n : ℕ) (l : List Entry) (w : W) where
  -- what the call answers, where the first check is c and the list's d
  abbrev answer : ℕ → ℕ → Watched
  answer c d = unless_refused (or_else c d) w l (told (goes n true l w) l)

  pub stands : (p : Stretch) (k : ℕ) (i : Left Input) → let a = watched_of n l w in
      one machine (journal_of p) check_of (up_to k) (run a.steps) (at p w i) ≡ at p a.world (leaves (up_to k) step (run n) a.number a.steps i)
  unfolding watched_of
  stands p k i = go (check_of w) (list_check l)
    where
      played : ℕ → ℕ → P p
      played c s = let b = guarded c w (ran machine (journal_of p) s w) in at p b.world (leaves (up_to k) step (run s) b.number b.steps i)

      go : (c d : ℕ) → let a = answer c d in played c a.steps ≡ at p a.world (leaves (up_to k) step (run n) a.number a.steps i)
      go (suc c) d = refl
      go zero (suc d) = refl
      go zero zero =
          let s = goes n true l w in
          let r = goes-runs p n true l w in
          rw (number-ran machine (journal_of p) s.steps w, r.steps, r.world)

  -- a refusal leaves everything as it was
  pub unmoved : ((watched_of n l w).number ≡ 0 → ⊥) → (watched_of n l w).world ≡ w
  unfolding watched_of
  unmoved h = go (or_else (check_of w) (list_check l)) h
    where
      go : (c : ℕ) → ((unless_refused c w l (told (goes n true l w) l)).number ≡ 0 → ⊥) → (unless_refused c w l (told (goes n true l w) l)).world ≡ w
      go zero z = absurd (z refl)
      go (suc c) z = refl

  -- its number and steps fit their fields
  pub few-steps : (watched_of n l w).steps ≤ n
  unfolding watched_of
  few-steps = go (or_else (check_of w) (list_check l))
    where
      go : (c : ℕ) → (unless_refused c w l (told (goes n true l w) l)).steps ≤ n
      go zero = goes-few n true l w
      go (suc c) = omega arith

  pub small-number : (watched_of n l w).number ≤ 41
  unfolding watched_of
  small-number = go (or_else (check_of w) (list_check l)) (first (check_of w) (list_check l) (check-small w) list-small)
    where
      InTable : ℕ → Type 0
      InTable c = c ≤ 41

      list-small : InTable (list_check l)
      list-small =
          picked InTable (leb (length l) 64)
          (picked InTable (all_known (map (λ (e : Entry). e.kind) l)) (omega arith) (omega arith)) (omega arith)

      first : (c d : ℕ) → c ≤ 9 → InTable d → InTable (or_else c d)
      first zero d h g = g
      first (suc c) d h g = omega (arith, h)

      go : (c : ℕ) → InTable c → InTable (unless_refused c w l (told (goes n true l w) l)).number
      go zero h = omega arith
      go (suc c) h = h
