-- Of an accepted pen every call is accepted; a refused pen changes nothing.
use Prim.Native.Nat.{ℕ, zero, suc, ◌+◌, ◌≤◌, ◌<◌, ◌^◌}
use mathlib.Core.Path.{◌≡◌, refl, sym, ◌∙◌, ap, subst}
use mathlib.Core.Bool.{Bool, true, false, cond, not, ◌&&◌}
use mathlib.Core.List.{List, [], ◌∷◌, ◌++◌}
use native.Mathlib.Omega.{arith}
use borrow.Author.Tests.{ltb-true}
use lib.Dec.{ltb}
use lib.ListN.{length, length-set}
use lib.Seq.{get_or-drop}
use Rattle.bus.specs.State.{word}
use Rattle.bus.specs.Good.{Within}
use Rattle.bus.specs.declared.state.Cpu.{Cpu}
use Rattle.bus.specs.declared.state.Stretch.{Stretch}
use Rattle.bus.proofs.Kept.{picked}
use Rattle.history.specs.Trace.{Effect, Next, refuses, gives, Answer, answers, no_run, Call, give, run, back, Left, took, leaves, up_to, gave, guarded, one}
use Rattle.history.specs.Ring.{Ring}
use Rattle.calls.specs.Inputs.{Input, step, tick, receive, sent, set_register, poke, resets, register_set, steps_of, next_of, machine}
use Rattle.calls.specs.Calls.{W, check_of, answer_of, plain_of, stretch_of, journal_of, went}
use Rattle.calls.proofs.Giving.{pokes, sets}
use Rattle.entries.specs.Entries.{entry, meets, any_of, all_known}
use Rattle.entries.specs.declared.Entry.{Entry}
use Rattle.watching.proofs.Dropped.{landed-kind}
use Rattle.watching.specs.Watched.{Stop, spent, caught, goes, turn, stored, reached}
use Rattle.watching.specs.declared.Ending.{Ending}
use Rattle.watching.specs.declared.Ending.TheVariants.{Refused, Budget, Halted, Watch, Break}
use Rattle.watched.specs.Answer.{Watched, told, or_else, list_check, unless_refused, watched_of}
use Rattle.utf8.specs.Latin.{all_latin, judged_of, latin_of}
use Rattle.std.specs.Prelude.{Option, Result, Ok, Err}
use Rattle.utf8.specs.declared.Unfit.{Unfit}
use Rattle.utf8.proofs.Reading.{fine-latin, fine-length, latin-head}
use Rattle.manifests.specs.Manifests.{held_of}
use Rattle.manifests.specs.declared.Held.{Held}
use Rattle.pens.specs.Pen.{address_in, stop_in, budget_in, given_in, settings, all_registers, pokings, preparing, made, matching}
use Rattle.pens.specs.Pen.{Penned, reported, name_check, first_check, pen_check, pen_named, pen_of}
use Rattle.pens.specs.Pen as Pen
use Rattle.pens.proofs.Checks.{name-fits, none_of, registers, never}
use Rattle.exact.specs.Demand3.{Fits}
use Rattle.exact.proofs.Fixed.{fixed}
use Rattle.exact.proofs.Played.{at, playing, AptCalls}
use Rattle.pens_exact.specs.Cut.{Typed}
use Rattle.pens_exact.specs.Nights.{named, left_by_each, AllAccepted, Accepted}
use Rattle.pens_exact.proofs.Passing.{Passing, checked, passes, taken}

-- ---- calls that a machine with n bytes of RAM accepts
abbrev pub Taking : ℕ → Input → Type 0
Taking n (poke a x) = (a < n) × (x < 2 ^ 8)
Taking n (set_register i x) = (i < 16) × (x < 2 ^ 16)
Taking n step = ⊥
Taking n tick = ⊥
Taking n (receive x) = ⊥
Taking n sent = ⊥
Taking n resets = ⊥

abbrev pub Acceptable : ℕ → Call Input → Type 0
Acceptable n (give i) = Taking n i
Acceptable n (run k) = ⊥
Acceptable n back = ⊥

abbrev pub AllAcceptable : ℕ → List (Call Input) → Type 0
AllAcceptable n [] = Unit {0}
AllAcceptable n (c ∷ cs) = Acceptable n c × AllAcceptable n cs

-- a call accepted, and the checks passed after it
record Goes (n : ℕ) (i : Input) (w : W) : Type 0 where
  fits : Fits i
  number : (answer_of (give i) w).number ≡ 0
  passing : Passing (answer_of (give i) w).world
  size : length (answer_of (give i) w).world.box.ram ≡ n

accepted : (i : Input) (w : W) (e : Effect Cpu) → Passing w → next_of i w.box ≡ gives e
    → answer_of (give i) w ≡ answers 0 (steps_of i) e.bus no_run (went w e)
accepted i w e p q =
    ap (λ (c : ℕ). guarded c w (plain_of (give i) w)) (passes w p) ∙ ap (λ (x : Next Cpu). gave machine (journal_of (stretch_of w)) w (steps_of i) x) q

gone : (n : ℕ) (i : Input) (w : W) (e : Effect Cpu) → Passing w → next_of i w.box ≡ gives e → Fits i → length e.box.ram ≡ n → Goes n i w
gone n i w e p q f l =
    let a = accepted i w e p q in
    record {
      fits = f;
      number = ap (λ (x : Answer Cpu Ring). x.number) a;
      passing = subst (λ (x : Answer Cpu Ring). Passing x.world) (sym a) (taken i w e q f p);
      size = ap (λ (x : Answer Cpu Ring). length x.world.box.ram) a ∙ l;
    }

goes_one : (n : ℕ) (i : Input) (w : W) → Taking n i → length w.box.ram ≡ n → Passing w → Goes n i w
goes_one n (poke a x) w t l p =
    gone n (poke a x) w _ p (pokes w.box a x (omega (arith, t.0, l))) t.1 (length-set w.box.ram a x ∙ l)
goes_one n (set_register i x) w t l p =
    gone n (set_register i x) w _ p (sets w.box (register_set i x w.box.cpu) i x t.0 refl) t.1 l
goes_one n step w t l p = absurd t
goes_one n tick w t l p = absurd t
goes_one n (receive x) w t l p = absurd t
goes_one n sent w t l p = absurd t
goes_one n resets w t l p = absurd t

-- calls that a machine with the protected addresses s accepts, one after the other
pub record AllGo (s : Stretch) (cs : List (Call Input)) (w : W) : Type 0 where
  pub apt : AptCalls s cs
  pub each : AllAccepted cs w
  pub passing : Passing (made cs w)
  pub stretch : stretch_of (made cs w) ≡ s
  pub plays : (k : ℕ) (l : Left Input) → playing s k cs (at s w l) ≡ at s (made cs w) (left_by_each k cs l)

one-given : (s : Stretch) (i : Input) (w : W) (k : ℕ) (l : Left Input) → stretch_of w ≡ s → (answer_of (give i) w).number ≡ 0
    → one machine (journal_of s) check_of (up_to k) (give i) (at s w l) ≡ at s (answer_of (give i) w).world (took (up_to k) i l)
one-given s i w k l q e =
    subst (λ (z : Stretch). one machine (journal_of z) check_of (up_to k) (give i) (at z w l) ≡ at z (answer_of (give i) w).world (took (up_to k) i l)) q
    (ap (λ (n : ℕ). at (stretch_of w) (answer_of (give i) w).world (leaves (up_to k) step (give i) n (answer_of (give i) w).steps l)) e)

pub all_go : (s : Stretch) (n : ℕ) (cs : List (Call Input)) (w : W) → stretch_of w ≡ s → AllAcceptable n cs → length w.box.ram ≡ n → Passing w → AllGo s cs w
unfolding made
all_go s n [] w q f l p = record { apt = tt; each = tt; passing = p; stretch = q; plays = λ k i. refl }
all_go s n (give i ∷ cs) w q f l p =
    let g = goes_one n i w f.0 l p in
    let r = all_go s n cs (answer_of (give i) w).world (fixed (give i) w ∙ q) f.1 g.size g.passing in
    record {
      apt = (g.fits, r.apt);
      each = (g.number, r.each);
      passing = r.passing;
      stretch = r.stretch;
      plays = λ (k : ℕ) (l : Left Input). ap (playing s k cs) (one-given s i w k l q g.number) ∙ r.plays k (took (up_to k) i l);
    }
all_go s n (run k ∷ cs) w q f l p = absurd f.0
all_go s n (back ∷ cs) w q f l p = absurd f.0

-- ---- a pen's calls are such
both_go : (n : ℕ) (cs ds : List (Call Input)) → AllAcceptable n cs → AllAcceptable n ds → AllAcceptable n (cs ++ ds)
both_go n [] ds f g = g
both_go n (c ∷ cs) ds f g = (f.0, both_go n cs ds f.1 g)

pokings-go : (n a : ℕ) (s : List ℕ) → all_latin s ≡ true → a + (length s + 1) ≤ n → AllAcceptable n (pokings a (s ++ (0 ∷ [])))
unfolding pokings
pokings-go n a [] e h = ((omega (arith, h), omega arith), tt)
pokings-go n a (x ∷ s) e h =
    let q = latin-head x s e in
    ((omega (arith, h), omega (arith, q.1)), pokings-go n (a + 1) s q.2 (omega (arith, h)))

and_first : (a b : Bool) → (a && b) ≡ true → a ≡ true
and_first true b e = refl
and_first false b e = e

and_second : (a b : Bool) → (a && b) ≡ true → b ≡ true
and_second true b e = e
and_second false b e = let z : ◌≡◌ {A = ℕ} 0 1 = cc in absurd (omega arith)

settings-go : (n : ℕ) (s : List ℕ) → ((i : ℕ) → word s i < 2 ^ 16) → all_registers s ≡ true → AllAcceptable n (settings s)
unfolding settings all_registers
settings-go n [] f e = tt
settings-go n (i ∷ []) f e = tt
settings-go n (i ∷ x ∷ s) f e =
    ((ltb-true i 16 (and_first (ltb i 16) (all_registers s) e), f 1), settings-go n s (λ (j : ℕ). f (suc (suc j))) (and_second (ltb i 16) (all_registers s) e))

given-within : (setup : List ℕ) → Within 16 setup → (i : ℕ) → word (given_in setup) i < 2 ^ 16
given-within setup f i = subst (λ (x : ℕ). x < 2 ^ 16) (sym (get_or-drop 3 setup i 0)) (f.at (3 + i))

-- ---- what a number 0 tells
module _ (h : Option Held) (name setup : List ℕ) (w : W) where
  -- what the code would answer, by the number of the checks
  abbrev answer : ℕ → Penned
  answer n = Pen.unless_refused n h w (reported h (matching setup (made (preparing setup name) w)))

  pub number-zero : (pen_named h name setup w).number ≡ 0 → pen_check h (judged_of name) setup w ≡ 0
  unfolding pen_named
  number-zero z = go (pen_check h (judged_of name) setup w) z
    where
      go : (k : ℕ) → (answer k).number ≡ 0 → k ≡ 0
      go zero e = refl
      go (suc k) e = absurd (omega (arith, e))

  pub unmoved : ((pen_named h name setup w).number ≡ 0 → ⊥) → (pen_named h name setup w).world ≡ w
  unfolding pen_named
  unmoved z = go (pen_check h (judged_of name) setup w) z
    where
      go : (k : ℕ) → ((answer k).number ≡ 0 → ⊥) → (answer k).world ≡ w
      go zero f = absurd (f refl)
      go (suc k) f = refl

  pub check-zero : pen_check h (judged_of name) setup w ≡ 0 → check_of w ≡ 0
  check-zero z =
      let a = none_of (first_check setup w) (name_check h (judged_of name) (address_in setup) (length w.box.ram)) z in
      (none_of (check_of w) (cond (all_registers (given_in setup)) 0 6) a.0).0

  fine-go : (n : ℕ) → judged_of name ≡ Ok n → Within 16 setup → pen_check h (judged_of name) setup w ≡ 0
      → AllAcceptable (length w.box.ram) (preparing setup name)
  fine-go n e f z =
      let ram = length w.box.ram in
      let a = none_of (first_check setup w) (name_check h (Ok n) (address_in setup) ram) (rw e at z) in
      let b = none_of (check_of w) (cond (all_registers (given_in setup)) 0 6) a.0 in
      let r = name-fits (address_in setup) ram h n a.1 in
      both_go ram (pokings (address_in setup) (latin_of name ++ (0 ∷ []))) (settings (given_in setup))
      (pokings-go ram (address_in setup) (latin_of name) (fine-latin name n e) (omega (arith, r, fine-length name n e)))
      (settings-go ram (given_in setup) (given-within setup f) (registers (all_registers (given_in setup)) b.1))

  judged-go : (j : Result ℕ Unfit) → judged_of name ≡ j → Within 16 setup → pen_check h (judged_of name) setup w ≡ 0
      → AllAcceptable (length w.box.ram) (preparing setup name)
  judged-go (Ok n) e f z = fine-go n e f z
  judged-go (Err u) e f z = absurd (never h name setup w u e z)

  pub pen-go : (s : Stretch) → stretch_of w ≡ s → Within 16 setup → Typed w.box.cpu w.box.ram → pen_check h (judged_of name) setup w ≡ 0
      → AllGo s (preparing setup name) w
  pen-go s q f y z =
      all_go s (length w.box.ram) (preparing setup name) w q (judged-go (judged_of name) refl f z) refl (checked w y (check-zero z))

-- ---- its run
known : (a : ℕ) → list_check (entry a 1 0 ∷ []) ≡ 0
unfolding all_known
known a = refl

-- an ending that an accepted run has whose list has no watch
abbrev Ended : Ending → Type 0
Ended Refused = ⊥
Ended Budget = Unit {0}
Ended Halted = Unit {0}
Ended Watch = ⊥
Ended Break = Unit {0}

abbrev Ends : Stop → Type 0
Ends s = Ended s.ending

spent_ends : (w : W) (x : Next Cpu) → Ends (spent w x)
spent_ends w (refuses n) = tt
spent_ends w (gives e) = tt

-- a list of one break
module _ (a : ℕ) where
  abbrev stop : List Entry
  stop = entry a 1 0 ∷ []

  no-watch : (e : Effect Cpu) → any_of (meets (stored e)) stop ≡ false
  unfolding any_of
  no-watch e = rw (landed-kind e.box.cpu.board.stretch (length e.box.ram) e.count e.first)

  turn-ends : (on : W → Stop) → ((w : W) → Ends (on w)) → (first : Bool) (w : W) (x : Next Cpu) → Ends (turn on first stop w x)
  turn-ends on f first w (refuses n) = tt
  turn-ends on f first w (gives e) =
      let v = went w e in
      picked Ends (not first && any_of (meets (reached w)) stop) tt
      (subst (λ (t : Bool). Ends (cond t (caught (stored e) v (next_of step v.box)) (on v))) (sym (no-watch e)) (f v))

  goes-ends : (n : ℕ) (first : Bool) (w : W) → Ends (goes n first stop w)
  goes-ends zero first w = spent_ends w (next_of step w.box)
  goes-ends (suc n) first w = turn-ends (goes n false stop) (goes-ends n false) first w (next_of step w.box)

-- where the checks pass it is not refused
pub run-told : (setup : List ℕ) (w : W) → Passing w → let l = entry (stop_in setup) 1 0 ∷ [] in matching setup w ≡ told (goes (budget_in setup) true l w) l
unfolding watched_of
run-told setup w p =
    let l = entry (stop_in setup) 1 0 ∷ [] in
    ap (λ (c : ℕ). unless_refused c w l (told (goes (budget_in setup) true l w) l)) (ap (λ (c : ℕ). or_else c (list_check l)) (passes w p) ∙ known (stop_in setup))

pub run-goes : (setup : List ℕ) (w : W) → Passing w
    → ((matching setup w).number ≡ 0) × ((matching setup w).ending ≡ Refused → ⊥) × ((matching setup w).ending ≡ Watch → ⊥)
run-goes setup w p =
    let a = run-told setup w p in
    let e = goes-ends (stop_in setup) (budget_in setup) true w in
    let c = sym (ap (λ (x : Watched). x.ending) a) in
    (ap (λ (x : Watched). x.number) a, λ q. subst Ended (c ∙ q) e, λ q. subst Ended (c ∙ q) e)

-- ---- a pen by its line
pub accepted-calls : (line today last setup : List ℕ) (w : W) → Typed w.box.cpu w.box.ram → Within 16 setup
    → (pen_of line today last setup w).number ≡ 0 → Accepted setup (named line today last) w
unfolding pen_of
accepted-calls line today last setup w y f z =
    let name = named line today last in
    let g = pen-go (held_of line today last) name setup w (stretch_of w) refl f y (number-zero (held_of line today last) name setup w z) in
    let r = run-goes setup (made (preparing setup name) w) g.passing in
    record { given = g.each; run = r.0; ends = r.1; unwatched = r.2 }

pub refused-pen : (line today last setup : List ℕ) (w : W) → ((pen_of line today last setup w).number ≡ 0 → ⊥) → (pen_of line today last setup w).world ≡ w
unfolding pen_of
refused-pen line today last setup w z = unmoved (held_of line today last) (named line today last) setup w z
