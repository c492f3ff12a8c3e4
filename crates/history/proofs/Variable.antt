-- Any journal with the laws, whatever it keeps: the number held grows by what the journal's own rule keeps of the newest records.
use Prim.Native.Nat.{ℕ, ◌+◌}
use mathlib.Core.Path.{◌≡◌, refl, ◌∙◌, ap, sym}
use mathlib.Core.List.{List, [], ◌∷◌}
use native.Mathlib.Numerals.{add-one}
use lib.ListN.{length, take}
use Rattle.history.specs.Trace.{Box, Machine, Undo, Store, World, Call, trail, play, fresh, Exactly, Popped, denies, hands}
use Rattle.history.proofs.Exact.{Ruly, Keeping, Hist, AllApt, newest, exact}

-- of the newest n + 1 records of the inputs, as many as the journal keeps
abbrev pub kept_of : (M : Machine) → Box M.C → (List (Undo M.C) → ℕ) → List M.I → ℕ → ℕ
kept_of M s kept is n = length (take (kept (take (n + 1) (trail M s is))) (take (n + 1) (trail M s is)))

module _ (M : Machine) (Fine : Undo M.C → Type 0) (L : Ruly M Fine) (s : Box M.C) (K : Store (Undo M.C)) (N : Keeping K Fine)
    (check : World M.C K.J → ℕ)
    (passes : (w : World M.C K.J) (us : List (Undo M.C)) → L.Good w.box → N.Holds w.journal us → check w ≡ 0) where
  grows : (i : M.I) (is : List M.I) (b : Box M.C) (u : Undo M.C) (us : List (Undo M.C)) → Hist M L.Good s (i ∷ is) b (u ∷ us) →
      length (take (N.kept (u ∷ us)) (u ∷ us)) ≡ kept_of M s N.kept (i ∷ is) (length us)
  grows i is b u us h =
      ap (λ (l : List (Undo M.C)). length (take (N.kept l) l)) (newest M Fine L s h ∙ ap (λ (k : ℕ). take k (trail M s (i ∷ is))) (sym (add-one (length us))))

  pub exact-kept :
      L.Good s → (j : K.J) → N.Holds j [] → (cs : List (Call M.I)) → AllApt M Fine L cs →
      Exactly M K check s (play M K check (kept_of M s N.kept) cs (fresh M K check s j))
  exact-kept = exact M Fine L s K N (kept_of M s N.kept) grows check passes

-- the simplest journal: the list of the records itself, cut by any rule
abbrev pub popped_list : {U : Type 0} → List U → Popped U (List U)
popped_list [] = denies 8
popped_list (u ∷ us) = hands u us

abbrev pub listed : (U : Type 0) → (List U → ℕ) → Store U
listed U room = record { J = List U; held = λ us. length us; push = λ u us. take (room (u ∷ us)) (u ∷ us); pop = λ us. popped_list us }

pub listed-keeps : (U : Type 0) (Fine : U → Type 0) (room : List U → ℕ) → Keeping (listed U room) Fine
listed-keeps U Fine room =
    record {
      Holds = λ j us. j ≡ us;
      kept = room;
      counted = λ j us e. ap length e;
      pushed = λ j u us f e. rw e;
      popped-none = λ j e. rw e;
      popped = λ j u us e. (us, rw e, refl);
    }
