-- A watched run under way, step by step.
use Prim.Native.Nat.{ℕ, zero, suc, ◌+◌, ◌-◌, ◌<◌, ◌≤◌}
use mathlib.Core.Path.{◌≡◌, refl, sym, ◌∙◌, ap, subst}
use mathlib.Core.Bool.{Bool, true, false, cond, not, ◌&&◌, ◌||◌}
use mathlib.Core.List.{List, [], ◌∷◌}
use native.Mathlib.Omega.{arith}
use borrow.Author.Tests.{eq-eqb, ne_eqb, eqb-true, eqb-false}
use lib.Dec.{T, eqb}
use lib.ListN.{length}
use Rattle.bus.specs.State.{cpu, board}
use Rattle.bus.specs.declared.state.Board.{Board}
use Rattle.bus.specs.declared.state.Stretch.{Stretch}
use Rattle.cpu.proofs.Touched.{step-spares}
use Rattle.calls.specs.Inputs.{step, next_of}
use Rattle.calls.specs.Calls.{W, stretch_of}
use Rattle.calls.proofs.Giving.{step-goes, step-stops}
use Rattle.recording.specs.Code.{standing, Turn, turn_of, turn_as}
use Rattle.recording.specs.declared.Recorded.{Recorded}
use Rattle.std.specs.Prelude.{Some, None}
use Rattle.entries.specs.Entries.{met_at, meets, any_of, place_of, found}
use Rattle.entries.specs.declared.Entry.{Entry}
use Rattle.entries.specs.declared.Met.{Met}
use Rattle.entries.proofs.Listed.{never_met}
use Rattle.watching.specs.Watched.{Stop, stops, nothing, landed_byte, landed, reached, caught, turn, goes}
use Rattle.watching.specs.Code.{caught_as, stop_of, sought_after, Names}
use Rattle.watching.specs.declared.Ending.TheVariants.{Budget, Halted, Break}

-- a stop after so many steps and bus bytes
abbrev later : ℕ → ℕ → Stop → Stop
later s b x = stops (s + x.steps) (b + x.bus) x.ending x.met x.world

same : {e : _} {x : Met} {w : W} {s s' b b' : ℕ} → s ≡ s' → b ≡ b' → stops s b e x w ≡ stops s' b' e x w
same p q = rw (p, q)

-- a run under way: with so many steps of the budget left and after so many bus bytes the rest, from where it stands, stops as the whole does
abbrev pub Going : ℕ → List Entry → Stop → ℕ → ℕ → W → Type 0
Going budget l start left bus v = later (budget - left) bus (goes left (eqb left budget) l v) ≡ start

pub begin : (budget : ℕ) (l : List Entry) (v : W) → Going budget l (goes budget true l v) budget 0 v
begin budget l v =
    let a : budget - budget ≡ 0 = omega arith in
    rw (a, eq-eqb budget budget refl) (same (omega arith) (omega arith))

-- an empty list has nothing to search
empty-met : (f : Entry → Bool) (l : List Entry) → length l ≡ 0 → any_of f l ≡ false
unfolding any_of
empty-met f [] e = refl
empty-met f (x ∷ l) e = absurd (omega (arith, e))

pub sought-empty : (skip : Bool) (f : Entry → Bool) (l : List Entry) → length l ≡ 0 → None ≡ cond skip None (found f l)
sought-empty true f l e = refl
sought-empty false f l e = rw (empty-met f l e)

-- ---- what a search tells: the place of the first entry met, if one is met and the search was not skipped
search-some : (s t : Bool) (n i : ℕ) → Some i ≡ cond s None (cond t (Some n) None) → (s ≡ false) × (t ≡ true) × (i ≡ n)
search-some true t n i e = absurd (grind arith)
search-some false true n i e = (refl, refl, grind arith)
search-some false false n i e = absurd (grind arith)

search-none : (s t : Bool) (n : ℕ) → None ≡ cond s None (cond t (Some n) None) → (not s && t) ≡ false
search-none true t n e = refl
search-none false true n e = absurd (grind arith)
search-none false false n e = refl

module _ (skip : Bool) (f : Entry → Bool) (l : List Entry) where
  pub sought-some : (i : ℕ) → Some i ≡ cond skip None (found f l) → (skip ≡ false) × (any_of f l ≡ true) × (i ≡ place_of f l)
  sought-some i e = search-some skip (any_of f l) (place_of f l) i e

  pub sought-met : (i : ℕ) → Some i ≡ cond skip None (found f l) → (not skip && any_of f l) ≡ true
  sought-met i e = let q = sought-some i e in rw (q.0, q.1)

  pub sought-none : None ≡ cond skip None (found f l) → (not skip && any_of f l) ≡ false
  sought-none e = search-none skip (any_of f l) (place_of f l) e

-- ---- what is looked for after a step that stored n bytes
module _ (t : Bool) (p : Stretch) (m n a : ℕ) (x : Met) where
  pub skips : (t || eqb n 0) ≡ true → x ≡ met_at 2 0 a → x ≡ sought_after t p m n a
  unfolding landed
  skips h e = go t refl
    where
      go : (s : Bool) → t ≡ s → x ≡ sought_after t p m n a
      go true q = rw q e
      go false q = let z = eqb-true n 0 (rw q at h) in rw (q, z) e

  unskipped : (t || eqb n 0) ≡ false → (t ≡ false) × (n ≡ 0 → ⊥)
  unskipped h = go t refl
    where
      go : (s : Bool) → t ≡ s → (t ≡ false) × (n ≡ 0 → ⊥)
      go true q = absurd (subst T (rw q at h) tt)
      go false q = (q, eqb-false n 0 (rw q at h))

  pub goes_one : (t || eqb n 0) ≡ false → n ≡ 1 → x ≡ landed_byte p m a → x ≡ sought_after t p m n a
  unfolding landed
  goes_one h q e = rw ((unskipped h).0, q) e

  pub goes-two : (t || eqb n 0) ≡ false → (n ≡ 1 → ⊥) → x ≡ landed p m 2 a → x ≡ sought_after t p m n a
  unfolding landed
  goes-two h q e = let u = unskipped h in rw u.0 (go n u.1 q)
    where
      go : (k : ℕ) → (k ≡ 0 → ⊥) → (k ≡ 1 → ⊥) → x ≡ landed p m k a
      go zero f g = absurd (f refl)
      go (suc zero) f g = absurd (g refl)
      go (suc (suc k)) f g = e

-- so for the bytes that a step stored: they meet no entry where the search was skipped, since the list is empty or nothing was stored
module _ (p : Stretch) (m n first : ℕ) (l : List Entry) (x : Met) where
  abbrev skip : Bool
  skip = eqb (length l) 0 || eqb n 0

  abbrev y : Met
  y = landed p m n first

  module _ (f : x ≡ sought_after skip p m n first) where
    unmet : (z t : Bool) → eqb (length l) 0 ≡ z → eqb n 0 ≡ t → (z || t) ≡ true → any_of (meets y) l ≡ false
    unfolding landed
    unmet true t q r s = empty-met (meets y) l (eqb-true (length l) 0 q)
    unmet false true q r s = rw (eqb-true n 0 r) (never_met 2 first l)
    unmet false false q r s = absurd (subst T (sym s) tt)

    -- what was looked for is what was stored, where something is met
    pub stored-some : (i : ℕ) → Some i ≡ cond skip None (found (meets x) l) → (x ≡ y) × (any_of (meets y) l ≡ true) × (i ≡ place_of (meets x) l)
    stored-some i e =
        let q = sought-some skip (meets x) l i e in
        let z : x ≡ y = f ∙ rw q.0 in
        (z, ap (λ (v : Met). any_of (meets v) l) (sym z) ∙ q.1, q.2)

    pub stored-none : None ≡ cond skip None (found (meets x) l) → any_of (meets y) l ≡ false
    stored-none e = go skip refl
      where
        go : (t : Bool) → skip ≡ t → any_of (meets y) l ≡ false
        go true q = unmet (eqb (length l) 0) (eqb n 0) refl refl q
        go false q =
            let z : x ≡ y = f ∙ rw q in
            ap (λ (v : Met). any_of (meets v) l) (sym z) ∙ (rw q at (sought-none skip (meets x) l e))

-- the end of a step that stored to a watched address
caught-is : (s b p : ℕ) (x : Met) (u : W) (t : Bool) → u.box.cpu.board.halted ≡ t
    → later s b (caught x u (next_of step u.box)) ≡ stop_of (caught_as s b x p t) u
caught-is s b p x u true h = rw (step-stops u.box h) (same (omega arith) (omega arith))
caught-is s b p x u false h = rw (step-goes u.box h) (same (omega arith) (omega arith))

-- it names the first watch, unless the machine is halted
pub caught-names : (s b p : ℕ) (x : Met) (l : List Entry) (t : Bool) → p ≡ place_of (meets x) l → Names (caught_as s b x p t) l
caught-names s b p x l true e = refl
caught-names s b p x l false e = e

-- ---- one turn
module _ (budget left bus : ℕ) (l : List Entry) (start : Stop) (v : W) (i : Going budget l start left bus v) where
  pub halts : v.box.cpu.board.halted ≡ true → start ≡ stops (budget - left) bus Halted nothing v
  halts h = go left i
    where
      go : (n : ℕ) → later (budget - left) bus (goes n (eqb left budget) l v) ≡ start → start ≡ stops (budget - left) bus Halted nothing v
      go zero e = sym e ∙ rw (step-stops v.box h) (same (omega arith) (omega arith))
      go (suc n) e = sym e ∙ rw (step-stops v.box h) (same (omega arith) (omega arith))

  module _ (h : v.box.cpu.board.halted ≡ false) where
    pub ends : left ≡ 0 → start ≡ stops budget bus Budget nothing v
    ends z =
        let a : budget - left ≡ budget = omega (arith, z) in
        sym (ap (λ (k : ℕ). later (budget - left) bus (goes k (eqb left budget) l v)) (sym z) ∙ i)
        ∙ rw (a, step-goes v.box h) (same (omega arith) (omega arith))

    module _ (some_left : 0 < left) where
      -- a turn of the run
      abbrev Taken : Stop → Type 0
      Taken x = later (budget - left) bus x ≡ start

      taken : Taken (turn (goes (left - 1) false l) (eqb left budget) l v (next_of step v.box))
      taken =
          let a : suc (left - 1) ≡ left = omega (arith, some_left) in
          ap (λ (k : ℕ). later (budget - left) bus (goes k (eqb left budget) l v)) a ∙ i

      pub breaks : (not (eqb left budget) && any_of (meets (reached v)) l) ≡ true → start ≡ stops (budget - left) bus Break (reached v) v
      breaks t = sym taken ∙ rw (step-goes v.box h, t) (same (omega arith) (omega arith))

      module _ (few : left ≤ budget) (t : (not (eqb left budget) && any_of (meets (reached v)) l) ≡ false) where
        -- the step's stop, or the run's from there
        abbrev met_by : Turn → Met
        met_by r = landed (stretch_of r.world) (length r.world.box.ram) r.count r.first

        abbrev onward : Turn → Stop
        onward r =
            later (budget - (left - 1)) (bus + r.bus)
            (cond (any_of (meets (met_by r)) l) (caught (met_by r) r.world (next_of step r.world.box)) (goes (left - 1) false l r.world))

        steps : onward (turn_of v) ≡ start
        steps = same (omega (arith, some_left, few)) (omega arith) ∙ (rw (step-goes v.box h, t) at taken)

        module _ (r : Recorded) (g k m ws : List ℕ) (e : turn_as r g k m ws ≡ turn_of v) where
          -- the board as the run keeps it: a step leaves the protected addresses
          abbrev b : Board
          b = board r.board.devices r.board.halted (stretch_of v)

          abbrev u : W
          u = standing (cpu g k b) r.place m ws

          abbrev x : Met
          x = landed (stretch_of v) (length m) r.count r.first

          same-stretch : r.board.stretch ≡ stretch_of v
          same-stretch = ap (λ (t : Turn). stretch_of t.world) e ∙ (step-spares v.box.cpu v.box.ram).stretch

          abbrev told : Board → Turn
          told b' = record { world = standing (cpu g k b') r.place m ws; count = r.count; first = r.first; bus = r.bus }

          stepped : onward (told b) ≡ start
          stepped = ap (λ (p : Stretch). onward (told (board r.board.devices r.board.halted p))) (sym same-stretch) ∙ ap onward e ∙ steps

          pub goes_on : any_of (meets x) l ≡ false → Going budget l start (left - 1) (bus + r.bus) u
          goes_on s =
              let d : eqb (left - 1) budget ≡ false = ne_eqb (left - 1) budget (λ z. omega (arith, some_left, few, z)) in
              rw d (rw s at stepped)

          pub catches : (p : ℕ) → any_of (meets x) l ≡ true → start ≡ stop_of (caught_as (budget - (left - 1)) (bus + r.bus) x p r.board.halted) u
          catches p s = sym (rw s at stepped) ∙ caught-is (budget - (left - 1)) (bus + r.bus) p x u r.board.halted refl
