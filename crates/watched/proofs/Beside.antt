-- The call beside the plain run's call: with an empty list they are one, and a stop loses nothing.
use Prim.Native.Nat.{ℕ, zero, suc, ◌-◌}
use mathlib.Core.Path.{◌≡◌, refl, ◌∙◌, ap}
use mathlib.Core.Bool.{true}
use mathlib.Core.List.{List, []}
use native.Mathlib.Omega.{arith}
use Rattle.bus.specs.declared.state.Cpu.{Cpu}
use Rattle.history.specs.Trace.{Answer, run, guarded}
use Rattle.history.specs.Ring.{Ring}
use Rattle.calls.specs.Calls.{W, check_of, stretch_of, answer_of, plain_of}
use Rattle.entries.specs.Entries.{marked, all_known}
use Rattle.entries.specs.declared.Entry.{Entry}
use Rattle.watching.specs.Watched.{goes}
use Rattle.watching.proofs.Beside.{goes-empty, any-journal, goes_on, summed}
use Rattle.watched.specs.Answer.{Watched, told, list_check, or_else, unless_refused, watched_of, as_run}

-- "With an empty list it is the run, journal and counts included"
pub empty : (n : ℕ) (w : W) → as_run (watched_of n [] w) ≡ answer_of (run n) w
unfolding watched_of all_known
empty n w = go (check_of w)
  where
    go : (c : ℕ) → as_run (unless_refused (or_else c 0) w [] (told (goes n true [] w) [])) ≡ guarded c w (plain_of (run n) w)
    go zero = goes-empty (stretch_of w) n true w
    go (suc c) = refl

pub empty-list : (n : ℕ) (w : W) → (watched_of n [] w).list ≡ []
unfolding watched_of all_known marked
empty-list n w = go (check_of w)
  where
    go : (c : ℕ) → (unless_refused (or_else c 0) w [] (told (goes n true [] w) [])).list ≡ []
    go zero = refl
    go (suc c) = refl

-- "a plain run with the budget that is left goes on to the state, RAM, journal and summed counts of one plain run with the whole budget"
pub loses-nothing : (n : ℕ) (l : List Entry) (w : W) → let a = watched_of n l w in
    a.number ≡ 0 → plain_of (run n) w ≡ summed a.steps a.bus (plain_of (run (n - a.steps)) a.world)
unfolding watched_of
loses-nothing n l w = go (or_else (check_of w) (list_check l))
  where
    rest : Watched → Answer Cpu Ring
    rest a = summed a.steps a.bus (plain_of (run (n - a.steps)) a.world)

    go : (c : ℕ) → (unless_refused c w l (told (goes n true l w) l)).number ≡ 0 → plain_of (run n) w ≡ rest (unless_refused c w l (told (goes n true l w) l))
    go zero e =
        let s = goes n true l w in
        goes_on (stretch_of w) n true l w ∙ ap (summed s.steps s.bus) (any-journal (stretch_of w) (stretch_of s.world) (n - s.steps) s.world)
    go (suc c) e = absurd (omega (arith, e))
