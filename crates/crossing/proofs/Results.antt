-- From a watched run's own promise to that of the boundary.
use Prim.Native.Nat.{ℕ, ◌+◌, ◌*◌, ◌≤◌}
use mathlib.Core.Path.{◌≡◌, sym, ◌∙◌, ap}
use mathlib.Core.List.{List}
use native.Mathlib.Omega.{arith}
use borrow.Author.Tests.{eq-eqb, ne_eqb}
use Rattle.word.specs.Word.{low_at}
use Rattle.calls.specs.Calls.{world_of, replied}
use Rattle.calls.specs.declared.state.Machine.{Machine}
use Rattle.calls.specs.declared.state.Answer.TheVariants.{Accepted}
use Rattle.calls.specs.declared.state.Reply.{Reply}
use Rattle.boundary.specs.Boundary.{taken, packed, Crossed, leaves, crossed}
use Rattle.entries.specs.declared.Entry.{Entry}
use Rattle.watching.specs.declared.Ending.{Ending}
use Rattle.watching.specs.declared.Ending.TheVariants.{Refused, Budget, Halted, Watch, Break}
use Rattle.watching.specs.declared.Told.{Told}
use Rattle.watched.specs.Answer.{Watched as Answer, watched_of}
use Rattle.watched.specs.Code.{answer_as, Watches}
use Rattle.watched.specs.declared.Watched.{Watched}
use Rattle.crossing.specs.Crossing.{ending_number, crossed_with, leaves_list, CrossesWatched}
-- passed on to callers that gather a list
pub use Rattle.watched.proofs.Bared.{of_points}

pub small : (e : Ending) → ending_number e ≤ 3
small Refused = omega arith
small Budget = omega arith
small Halted = omega arith
small Watch = omega arith
small Break = omega arith

abbrev result : ℕ → Told → ℕ
result n t = packed n t.steps t.bus (ending_number t.ending + 4 * low_at 6 t.place)

abbrev accepted : Machine → Reply
accepted m = record { answer = Accepted; machine = m }

-- an answer, where it is refused and where it is accepted
module _ (w : List ℕ) (r : Watched) (ram ws : List ℕ) (l : List Entry) (x : ℕ) (e : x ≡ result r.number r.told) where
  pub kept : (r.number ≡ 0 → ⊥) → crossed_with w (answer_as r ram ws l) ≡ leaves_list x w ram ws l
  unfolding crossed_with crossed
  kept h = rw (e, ne_eqb r.number 0 h)

  pub rewritten : (y : ℕ) (w' : List ℕ) → r.number ≡ 0 → crossed w (replied (accepted r.machine) ram ws) ≡ leaves y w' ram ws
      → crossed_with w (answer_as r ram ws l) ≡ leaves_list x w' ram ws l
  unfolding crossed_with crossed
  rewritten y w' z c =
      rw (e, eq-eqb r.number 0 z) (ap (λ (t : Crossed). leaves_list (result r.number r.told) t.words ram ws l) c)

-- words to machine, the run, machine to words
pub crosses : (n : ℕ) (w ram ws : List ℕ) (l : List Entry) (m : Machine) (r : Watched) (x : ℕ) (w' ram' ws' : List ℕ) (l' : List Entry) → m ≡ taken w
    → Watches n m ram ws l r ram' ws' l'
    → crossed_with w (answer_as r ram' ws' l') ≡ leaves_list x w' ram' ws' l'
    → CrossesWatched n w ram ws l x w' ram' ws' l'
crosses n w ram ws l m r x w' ram' ws' l' em k e = ap (λ (y : Machine). crossed_with w (watched_of n l (world_of y ram ws))) (sym em) ∙ ap (crossed_with w) k ∙ e

-- what the stop meets
pub meets-told : (n : ℕ) (w ram ws : List ℕ) (l : List Entry) (m : Machine) (r : Watched) (ram' ws' : List ℕ) (l' : List Entry) → m ≡ taken w
    → Watches n m ram ws l r ram' ws' l' → r.told.met ≡ (watched_of n l (world_of (taken w) ram ws)).met
meets-told n w ram ws l m r ram' ws' l' em k =
    sym (ap (λ (x : Answer). x.met) k) ∙ ap (λ (y : Machine). (watched_of n l (world_of y ram ws)).met) em
