-- The fields of a watched run's result hold its numbers whole: the entry that is named is one of at most 64, and bus bytes are those of a plain run.
use Prim.Native.Nat.{ℕ, zero, suc, ◌*◌, ◌≤◌, ◌<◌}
use mathlib.Core.Path.{◌≡◌, refl, sym, ◌∙◌, ap}
use mathlib.Core.Bool.{Bool, true, false, cond, not, ◌&&◌, true≢false}
use mathlib.Core.List.{List}
use native.Mathlib.Omega.{arith}
use borrow.Author.Tests.{ltb-true}
use lib.ListN.{length}
use Rattle.bus.specs.declared.state.Cpu.{Cpu}
use Rattle.history.specs.Trace.{Effect, Next, refuses, gives, run, guarded, ran}
use Rattle.calls.specs.Inputs.{step, next_of, machine}
use Rattle.calls.specs.Calls.{W, check_of, stretch_of, journal_of, went}
use Rattle.entries.specs.Entries.{meets, any_of, place_of}
use Rattle.entries.specs.declared.Entry.{Entry}
use Rattle.entries.specs.declared.Met.{Met}
use Rattle.entries.proofs.Listed.{some-place}
use Rattle.watching.specs.Watched.{Stop, stops, reached, stored, more, spent, caught, watched, placed, turn, goes}
use Rattle.watching.specs.declared.Ending.{Ending}
use Rattle.watching.specs.declared.Ending.TheVariants.{Refused, Budget, Halted, Watch, Break}
use Rattle.watching.proofs.Beside.{goes-runs, goes-few}
use Rattle.watched.specs.Answer.{told, list_check, or_else, unless_refused, watched_of}
use Rattle.watched.proofs.Answering.{passed}
use Rattle.exact.specs.Fields.{WatchedWhole}
use Rattle.exact.proofs.Counts.{counts}
use Rattle.exact.proofs.Stands.{few-steps, small-number}

-- ---- a watch and a break have met an entry
Meeting : Ending → Met → List Entry → Type 0
Meeting Refused x l = Unit {0}
Meeting Budget x l = Unit {0}
Meeting Halted x l = Unit {0}
Meeting Watch x l = any_of (meets x) l ≡ true
Meeting Break x l = any_of (meets x) l ≡ true

abbrev Meets : List Entry → Stop → Type 0
Meets l s = Meeting s.ending s.met l

spent-meets : (l : List Entry) (w : W) (x : Next Cpu) → Meets l (spent w x)
unfolding Meeting
spent-meets l w (refuses n) = tt
spent-meets l w (gives e) = tt

caught-meets : (l : List Entry) (x : Met) (w : W) (y : Next Cpu) → any_of (meets x) l ≡ true → Meets l (caught x w y)
unfolding Meeting
caught-meets l x w (refuses n) h = tt
caught-meets l x w (gives e) h = h

watched-meets : (on : W → Stop) (l : List Entry) (e : Effect Cpu) (w : W) → ((v : W) → Meets l (on v)) → Meets l (watched on l e w)
watched-meets on l e w h = go (any_of (meets (stored e)) l) refl
  where
    go : (t : Bool) → any_of (meets (stored e)) l ≡ t → Meets l (cond t (caught (stored e) w (next_of step w.box)) (on w))
    go true q = caught-meets l (stored e) w (next_of step w.box) q
    go false q = h w

second : (a b : Bool) → (a && b) ≡ true → b ≡ true
second true b e = e
second false b e = absurd (true≢false (sym e))

turn-meets : (on : W → Stop) (first : Bool) (l : List Entry) (w : W) (x : Next Cpu) → ((v : W) → Meets l (on v)) → Meets l (turn on first l w x)
unfolding Meeting
turn-meets on first l w (refuses n) h = tt
turn-meets on first l w (gives e) h = go (not first && any_of (meets (reached w)) l) refl
  where
    go : (t : Bool) → (not first && any_of (meets (reached w)) l) ≡ t
        → Meets l (cond t (stops 0 0 Break (reached w) w) (more e (watched on l e (went w e))))
    go true q = second (not first) (any_of (meets (reached w)) l) q
    go false q = watched-meets on l e (went w e) h

goes-meets : (n : ℕ) (first : Bool) (l : List Entry) (w : W) → Meets l (goes n first l w)
goes-meets zero first l w = spent-meets l w (next_of step w.box)
goes-meets (suc n) first l w = turn-meets (goes n false l) first l w (next_of step w.box) (goes-meets n false l)

-- so its place is one of the list's
inside : (x : Met) (l : List Entry) → any_of (meets x) l ≡ true → place_of (meets x) l < length l
inside x l h = ltb-true (place_of (meets x) l) (length l) (sym (some-place (meets x) l) ∙ h)

place-below : (c : Ending) (x : Met) (l : List Entry) → length l ≤ 64 → Meeting c x l → placed c (place_of (meets x) l) ≤ 63
unfolding Meeting
place-below Refused x l n h = omega arith
place-below Budget x l n h = omega arith
place-below Halted x l n h = omega arith
place-below Watch x l n h = let i = inside x l h in omega (arith, i, n)
place-below Break x l n h = let i = inside x l h in omega (arith, i, n)

module _ (n : ℕ) (l : List Entry) (w : W) where
  small-place : (watched_of n l w).place ≤ 63
  unfolding watched_of
  small-place = go (or_else (check_of w) (list_check l)) refl
    where
      go : (c : ℕ) → or_else (check_of w) (list_check l) ≡ c → (unless_refused c w l (told (goes n true l w) l)).place ≤ 63
      go zero e = let s = goes n true l w in place-below s.ending s.met l (passed (check_of w) l e) (goes-meets n true l w)
      go (suc c) e = omega arith

  -- ---- bus bytes: four for each step at most, as of the plain run
  unchecked : (a b : ℕ) → or_else a b ≡ 0 → a ≡ 0
  unchecked zero b e = refl
  unchecked (suc a) b e = absurd (omega (arith, e))

  module _ (few : n ≤ 65535) where
    small-bus : (watched_of n l w).bus ≤ 4 * 65535
    unfolding watched_of
    small-bus = go (or_else (check_of w) (list_check l)) refl
      where
        s : Stop
        s = goes n true l w

        go : (c : ℕ) → or_else (check_of w) (list_check l) ≡ c → (unless_refused c w l (told s l)).bus ≤ 4 * 65535
        go zero e =
            let m : s.steps ≤ 65535 = omega (arith, goes-few n true l w, few) in
            let b = (counts (run s.steps) w m).bus in
            let q : (guarded (check_of w) w (ran machine (journal_of (stretch_of w)) s.steps w)).bus ≡ s.bus =
            ap (λ (c : ℕ). (guarded c w (ran machine (journal_of (stretch_of w)) s.steps w)).bus) (unchecked (check_of w) (list_check l) e) ∙ (goes-runs (stretch_of w) n true l w).bus
            in
            omega (arith, b, q)
        go (suc c) e = omega arith

    -- so their fields hold them whole
    pub watched-whole : WatchedWhole (watched_of n l w)
    watched-whole =
        let a = small-number n l w in
        let b = few-steps n l w in
        record {
          number = omega (arith, a);
          steps = omega (arith, b, few);
          bus = omega (arith, small-bus);
          place = omega (arith, small-place);
        }
