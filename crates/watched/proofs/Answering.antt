-- From the points of a list, the checks and the run to what the call answers.
use Prim.Native.Nat.{ℕ, zero, suc, ◌≤◌, ◌<◌}
use mathlib.Core.Path.{◌≡◌, refl, sym, ◌∙◌, ap, subst}
use mathlib.Core.Bool.{Bool, true, false, cond}
use mathlib.Core.List.{List, map}
use native.Mathlib.Omega.{arith}
use borrow.Author.Tests.{leb-true, leb-false, le-leb, lt-leb}
use lib.Dec.{leb}
use lib.ListN.{length, take, length-map}
use Rattle.std.specs.List.{take-map}
use Rattle.bus.specs.declared.state.Cpu.{Cpu}
use Rattle.history.specs.Trace.{Effect, Next, refuses, gives}
use Rattle.calls.specs.Inputs.{step, next_of}
use Rattle.calls.specs.Calls.{W, check_of, number_of as number_of_check, went, world_of}
use Rattle.calls.specs.declared.state.Machine.{Machine as MachineT}
use Rattle.calls.specs.declared.state.Refusal.{Refusal as CheckT}
use Rattle.entries.specs.Entries.{meets, marked, place_of, all_known}
use Rattle.entries.specs.Code.{bare, points_of}
use Rattle.entries.specs.declared.Entry.{Entry}
use Rattle.entries.specs.declared.Points.{Points}
use Rattle.entries.proofs.Listed.{bare-some, bare-place, bare-kinds, never-marked, gathered, too_long}
use Rattle.watching.specs.Watched.{Stop, reached, stored, watched, placed, turn, goes}
use Rattle.watching.specs.Code.{Names, stop_of}
use Rattle.watching.specs.declared.Told.{Told}
use Rattle.watched.specs.Answer.{Watched, told, refused, list_check, or_else, unless_refused, watched_of}
use Rattle.watched.specs.Code.{bared, number_of, answered, refuse, stopped_as, answer_as, Watches}
use Rattle.watched.specs.declared.Refusal.{Refusal}
use Rattle.watched.specs.declared.Stopped.{Stopped}
use Rattle.watched.specs.declared.Watched.{Watched as WatchedT}

abbrev kinds : List Entry → List ℕ
kinds l = map (λ (e : Entry). e.kind) l

-- ---- the checks of a list, by its points
pub short : (l : List Entry) → (points_of l).count ≤ 64 → length l ≤ 64
short l h = go (leb (length l) 64) refl
  where
    go : (t : Bool) → leb (length l) 64 ≡ t → length l ≤ 64
    go true e = leb-true (length l) 64 e
    go false e = let c = too_long l (leb-false (length l) 64 e) in absurd (omega (arith, c, h))

pub long : (l : List Entry) → 64 < (points_of l).count → 64 < length l
long l h = go (leb (length l) 64) refl
  where
    go : (t : Bool) → leb (length l) 64 ≡ t → 64 < length l
    go true e = let n = leb-true (length l) 64 e in let c = (gathered l n).count in absurd (omega (arith, c, h, n))
    go false e = leb-false (length l) 64 e

pub check-long : (l : List Entry) → 64 < length l → 40 ≡ list_check l
check-long l h = rw (lt-leb (length l) 64 h)

pub check-kinds : (l : List Entry) (t : Bool) → length l ≤ 64 → all_known (kinds l) ≡ t → cond t 0 41 ≡ list_check l
check-kinds l t n k = rw (le-leb (length l) 64 n, k)

-- without hits, the entries that are there are the list's
listed : (p : Points) (l : List Entry) → bared p ≡ points_of l → length l ≤ 64 → map bare (take p.count p.entries) ≡ map bare l
listed p l e n =
    let c = gathered l n in
    sym (take-map bare p.count p.entries) ∙ ap (λ (x : Points). take x.count x.entries) e ∙ ap (λ (x : ℕ). take x (points_of l).entries) c.count
    ∙ c.entries

-- two lists that are the same without hits are refused alike
check-same : (k l : List Entry) → map bare k ≡ map bare l → list_check l ≡ list_check k
check-same k l e =
    let n : length l ≡ length k = sym (length-map l bare) ∙ ap length (sym e) ∙ length-map k bare in
    let ks : kinds l ≡ kinds k = sym (bare-kinds l) ∙ ap kinds (sym e) ∙ bare-kinds k in
    ap (λ (x : ℕ). cond (leb x 64) (cond (all_known (kinds l)) 0 41) 40) n
    ∙ ap (λ (x : List ℕ). cond (leb (length k) 64) (cond (all_known x) 0 41) 40) ks

-- a list that passes is not too long
pub passed : (a : ℕ) (l : List Entry) → or_else a (list_check l) ≡ 0 → length l ≤ 64
passed zero l e = go (leb (length l) 64) refl e
  where
    number : Bool → ℕ
    number t = cond t (cond (all_known (kinds l)) 0 41) 40

    go : (t : Bool) → leb (length l) 64 ≡ t → number t ≡ 0 → length l ≤ 64
    go true p q = leb-true (length l) 64 p
    go false p q = absurd (omega (arith, q))
passed (suc a) l e = absurd (omega (arith, e))

-- no refusal has the number 0
check-nonzero : (why : CheckT) → number_of_check why ≡ 0 → ⊥
check-nonzero CheckT.RamTooLong e = omega (arith, e)
check-nonzero CheckT.BadJournal e = omega (arith, e)
check-nonzero CheckT.BadState e = omega (arith, e)
check-nonzero CheckT.Halted e = omega (arith, e)
check-nonzero CheckT.NotReady e = omega (arith, e)
check-nonzero CheckT.NoRegister e = omega (arith, e)
check-nonzero CheckT.NotRam e = omega (arith, e)
check-nonzero CheckT.NoRecord e = omega (arith, e)
check-nonzero CheckT.BadRecord e = omega (arith, e)

nonzero : (why : Refusal) → number_of why ≡ 0 → ⊥
nonzero (Refusal.Check why) e = check-nonzero why e
nonzero Refusal.TooMany e = omega (arith, e)
nonzero Refusal.UnknownKind e = omega (arith, e)

or_else_some : (a b : ℕ) → (a ≡ 0 → ⊥) → a ≡ or_else a b
or_else_some zero b h = absurd (h refl)
or_else_some (suc a) b h = refl

-- a check that fails comes before the list's
pub check-first : (why : CheckT) (n b : ℕ) → number_of_check why ≡ n → number_of_check why ≡ or_else n b
check-first why n b e = or_else_some (number_of_check why) b (check-nonzero why) ∙ ap (λ (x : ℕ). or_else x b) e

-- ---- hits do not steer the run
module _ (l : List Entry) where
  abbrev b : List Entry
  b = map bare l

  watched-same : (on on' : W → Stop) → ((w : W) → on w ≡ on' w) → (e : Effect Cpu) (w : W) → watched on b e w ≡ watched on' l e w
  watched-same on on' h e w = rw (bare-some (stored e) l, h w)

  turn-same : (on on' : W → Stop) → ((w : W) → on w ≡ on' w) → (first : Bool) (w : W) (x : Next Cpu) → turn on first b w x ≡ turn on' first l w x
  turn-same on on' h first w (refuses n) = refl
  turn-same on on' h first w (gives e) = rw (bare-some (reached w) l, watched-same on on' h e (went w e))

  goes_same : (n : ℕ) (first : Bool) (w : W) → goes n first b w ≡ goes n first l w
  goes_same zero first w = refl
  goes_same (suc n) first w = turn-same (goes n false b) (goes n false l) (goes_same n false) first w (next_of step w.box)

-- ---- the answer
told-as : (s : Stop) (t : Told) (w : W) (l : List Entry) → s ≡ stop_of t w → t.place ≡ placed t.ending (place_of (meets t.met) l)
    → told s l ≡ record { number = 0; steps = t.steps; bus = t.bus; ending = t.ending; met = t.met; place = t.place; world = w; list = marked t.met l }
told-as s t w l e p = ap (λ (x : Stop). told x l) e ∙ rw p

module _ (m : MachineT) (ram ws : List ℕ) (budget : ℕ) (l : List Entry) where
  abbrev w : W
  w = world_of m ram ws

  pub ran : (s : Stopped) (ram' ws' : List ℕ) → goes budget true l w ≡ stopped_as s ram' ws' → Names s.told l
      → told (goes budget true l w) l ≡ answer_as (answered 0 s.told s.machine) ram' ws' (marked s.told.met l)
  ran s ram' ws' g t = told-as (goes budget true l w) s.told (world_of s.machine ram' ws') l g t

  pub denies : (why : Refusal) → number_of why ≡ or_else (check_of w) (list_check l)
      → watched_of budget l w ≡ answer_as (refuse m (number_of why)) ram ws (marked (refuse m (number_of why)).told.met l)
  unfolding watched_of
  denies why e =
      ap (λ (x : ℕ). unless_refused x w l (told (goes budget true l w) l)) (sym e) ∙ go (number_of why) (nonzero why)
      ∙ ap (refused (number_of why) w) (sym (never-marked 0 0 l))
    where
      go : (k : ℕ) → (k ≡ 0 → ⊥) → unless_refused k w l (told (goes budget true l w) l) ≡ refused k w l
      go zero z = absurd (z refl)
      go (suc k) z = refl

  pub accepts : or_else (check_of w) (list_check l) ≡ 0 → watched_of budget l w ≡ told (goes budget true l w) l
  unfolding watched_of
  accepts e = ap (λ (x : ℕ). unless_refused x w l (told (goes budget true l w) l)) e

-- an answer for another list: all but the list is the same
abbrev relisted : Watched → List Entry → Watched
relisted a l =
    record { number = a.number; steps = a.steps; bus = a.bus; ending = a.ending; met = a.met; place = a.place; world = a.world; list = marked a.met l }

module _ (budget : ℕ) (w : W) (k l : List Entry) (e : map bare k ≡ map bare l) where
  told-same : told (goes budget true l w) l ≡ relisted (told (goes budget true k w) k) l
  told-same =
      let s = goes budget true k w in
      let g : goes budget true l w ≡ s = sym (goes_same l budget true w) ∙ ap (λ (x : List Entry). goes budget true x w) (sym e) ∙ goes_same k budget true w in
      let p : place_of (meets s.met) l ≡ place_of (meets s.met) k = sym (bare-place s.met l) ∙ ap (place_of (meets s.met)) (sym e) ∙ bare-place s.met k in
      ap (λ (x : Stop). told x l) g ∙ rw p

  same-answer : watched_of budget l w ≡ relisted (watched_of budget k w) l
  unfolding watched_of
  same-answer = ap (λ (x : ℕ). unless_refused (or_else (check_of w) x) w l (told (goes budget true l w) l)) (check-same k l e) ∙ go (or_else (check_of w) (list_check k))
    where
      go : (n : ℕ) → unless_refused n w l (told (goes budget true l w) l) ≡ relisted (unless_refused n w k (told (goes budget true k w) k)) l
      go zero = told-same
      go (suc n) = ap (refused (suc n) w) (sym (never-marked 0 0 l))

-- a run by the entries of a list by value is one by the list that it stands for
pub stands-for : (p : Points) (l : List Entry) (budget : ℕ) (m : MachineT) (ram ws : List ℕ) (r : WatchedT) (ram' ws' : List ℕ) → bared p ≡ points_of l → p.count ≤ 64
    → Watches budget m ram ws (take p.count p.entries) r ram' ws' (marked r.told.met (take p.count p.entries))
    → Watches budget m ram ws l r ram' ws' (marked r.told.met l)
stands-for p l budget m ram ws r ram' ws' e n h =
    let s = short l (subst (λ (x : Points). x.count ≤ 64) e n) in
    same-answer budget (world_of m ram ws) (take p.count p.entries) l (listed p l e s) ∙ ap (λ (a : Watched). relisted a l) h
