-- Demand 3 for any machine that touches at most the bytes it says, and any journal that hands back its newest record.
use Prim.Native.Nat.{ℕ, zero, suc, ◌<◌}
use mathlib.Core.Path.{◌≡◌, refl, ◌∙◌, ap}
use mathlib.Core.List.{List, [], ◌∷◌}
use mathlib.Core.Option.{some}
use native.Mathlib.Omega.{arith}
use lib.ListN.{length, take}
use Rattle.history.specs.Undo.{Touched}
use Rattle.history.proofs.PutBack.{undone-none, undone-one, undone-two}
use Rattle.history.proofs.Runs.{number-ran}
use Rattle.history.specs.Trace.{Box, Effect, Next, refuses, gives, Machine, Undo, undo_of, undo, denies, hands, Store}
use Rattle.history.specs.Trace.{Call, give, run, back, World, Left, took, took_times, rest, leaves, ruled, trail}
use Rattle.history.specs.Trace.{back_number, W, after, gave, stepped, ran, plain, Played, one, play, fresh, Exactly}

-- what demand 3 needs of the rules' answer in a good state: a refusal has a number; an effect is good again, and touches the bytes it says
abbrev pub Lawful : {C : Type 0} → (Box C → Type 0) → Box C → Next C → Type 0
Lawful Good b (refuses n) = 0 < n
Lawful Good b (gives e) = Good e.box × Touched e.count e.first b.ram e.box.ram

-- what demand 3 needs of the rules: inputs that fit their types, the step among them, are lawful in a good state, and its records are fine
pub record Ruly (M : Machine) (Fine : Undo M.C → Type 0) : Type 1 where
  pub Good : Box M.C → Type 0
  pub Fits : M.I → Type 0
  pub stepping : Fits M.step
  pub lawful : (i : M.I) (b : Box M.C) → Fits i → Good b → Lawful Good b (M.rule i b)
  pub fines : (b : Box M.C) (n a : ℕ) → Good b → Fine (undo_of b n a)

-- what it needs of the journal: `Holds j us` says that j holds the records us, newest first; of u ∷ us a push keeps the newest
-- `kept (u ∷ us)`
pub record Keeping {U : Type 0} (K : Store U) (Fine : U → Type 0) : Type 1 where
  pub Holds : K.J → List U → Type 0
  pub kept : List U → ℕ
  pub counted : (j : K.J) (us : List U) → Holds j us → K.held j ≡ length us
  pub pushed : (j : K.J) (u : U) (us : List U) → Fine u → Holds j us → Holds (K.push u j) (take (kept (u ∷ us)) (u ∷ us))
  pub popped-none : (j : K.J) → Holds j [] → K.pop j ≡ denies 8
  pub popped : (j : K.J) (u : U) (us : List U) → Holds j (u ∷ us) → (j' : K.J) × (K.pop j ≡ hands u j') × Holds j' us

-- the records us, newest first, are those of the newest inputs of `is`, which lead from s to b
pub data Hist (M : Machine) (Good : Box M.C → Type 0) (s : Box M.C) : List M.I → Box M.C → List (Undo M.C) → Type 0 where
  lost : {is : List M.I} {b : Box M.C} → ruled M s is ≡ some b → Hist M Good s is b []
  more :
      {is : List M.I} {i : M.I} {b : Box M.C} {e : Effect M.C} {us : List (Undo M.C)} →
      Good b → M.rule i b ≡ gives e → Touched e.count e.first b.ram e.box.ram → Hist M Good s is b us →
      Hist M Good s (i ∷ is) e.box (undo_of b e.count e.first ∷ us)

abbrev boxed : {C : Type 0} → C → List ℕ → Box C
boxed c m = record { cpu = c; ram = m }

-- a record brings back the state before
undone : {C : Type 0} (b : Box C) (n a : ℕ) (m : List ℕ) → Touched n a b.ram m → undo (undo_of b n a) m ≡ b
undone b zero a m t = ap (boxed b.cpu) (undone-none a b.ram m t)
undone b (suc zero) a m t = ap (boxed b.cpu) (undone-one a b.ram m t)
undone b (suc (suc n)) a m t = ap (boxed b.cpu) (undone-two n a b.ram m t)

-- calls whose inputs fit their types
abbrev pub Apt : (M : Machine) (Fine : Undo M.C → Type 0) → Ruly M Fine → Call M.I → Type 0
Apt M Fine L (give i) = L.Fits i
Apt M Fine L (run n) = Unit {0}
Apt M Fine L back = Unit {0}

abbrev pub AllApt : (M : Machine) (Fine : Undo M.C → Type 0) → Ruly M Fine → List (Call M.I) → Type 0
AllApt M Fine L [] = Unit {0}
AllApt M Fine L (c ∷ cs) = Apt M Fine L c × AllApt M Fine L cs

module _ (M : Machine) (Fine : Undo M.C → Type 0) (L : Ruly M Fine) (s : Box M.C) where
  effect : (i : M.I) (b : Box M.C) (x : Next M.C) → L.Fits i → L.Good b → M.rule i b ≡ x → Lawful L.Good b x
  effect i b x f g q = rw q at (L.lawful i b f g)

  reached : {is : List M.I} {b : Box M.C} {us : List (Undo M.C)} → Hist M L.Good s is b us → ruled M s is ≡ some b
  reached (lost p) = p
  reached (more g q t h) = rw (reached h, q)

  cut : (k : ℕ) {is : List M.I} {b : Box M.C} {us : List (Undo M.C)} → Hist M L.Good s is b us → Hist M L.Good s is b (take k us)
  cut zero h = lost (reached h)
  cut (suc k) (lost p) = lost p
  cut (suc k) (more g q t h) = more g q t (cut k h)

  -- the records held are the newest of those that the rules give for the inputs
  pub newest : {is : List M.I} {b : Box M.C} {us : List (Undo M.C)} → Hist M L.Good s is b us → us ≡ take (length us) (trail M s is)
  newest (lost p) = refl
  newest (more {b = b₀} {e = e₀} g q t h) = rw (reached h, q) (ap (λ (l : List (Undo M.C)). undo_of b₀ e₀.count e₀.first ∷ l) (newest h))

  -- the newest record brings back the state before the newest input
  record Before (is : List M.I) (b : Box M.C) (u : Undo M.C) (us : List (Undo M.C)) : Type 0 where
    hist : Hist M L.Good s (rest is) (undo u b.ram) us
    good : L.Good (undo u b.ram)

  before : {is : List M.I} {b : Box M.C} {u : Undo M.C} {us : List (Undo M.C)} → Hist M L.Good s is b (u ∷ us) → Before is b u us
  before (more {b = b₀} {e = e₀} g q t h) =
      let p = undone b₀ e₀.count e₀.first e₀.box.ram t in
      record { hist = rw p h; good = rw p g }

  -- Demand 3's invariant: what stands is what the rules give for the inputs not taken back, and the journal holds the newest records
  module _ (K : Store (Undo M.C)) (N : Keeping K Fine) where
    record Kept (w : W M K) (is : List M.I) (us : List (Undo M.C)) : Type 0 where
      hist : Hist M L.Good s is w.box us
      good : L.Good w.box
      holds : N.Holds w.journal us

    kept-give :
        {w : W M K} {is : List M.I} {us : List (Undo M.C)} (i : M.I) (e : Effect M.C) → L.Fits i → M.rule i w.box ≡ gives e → Kept w is us →
        let us' = undo_of w.box e.count e.first ∷ us in
        Kept (after M K w e) (i ∷ is) (take (N.kept us') us')
    kept-give {w} {is} {us} i e f q k =
        record {
          hist = cut (N.kept (undo_of w.box e.count e.first ∷ us)) (more k.good q (effect i w.box (gives e) f k.good q).1 k.hist);
          good = (effect i w.box (gives e) f k.good q).0;
          holds = N.pushed _ _ _ (L.fines w.box e.count e.first k.good) k.holds;
        }

    kept_back :
        {w : W M K} {is : List M.I} {u : Undo M.C} {us : List (Undo M.C)} → Kept w is (u ∷ us) →
        (j : K.J) × (K.pop w.journal ≡ hands u j) × Kept (record { box = undo u w.box.ram; journal = j }) (rest is) us
    kept_back {w} {is} {u} {us} k =
        let p = N.popped w.journal u us k.holds in
        let b = before k.hist in
        (p.0, p.1, record { hist = b.hist; good = b.good; holds = p.2 })

    -- a journal whose number held grows by a rule, and checks that pass wherever the invariant holds
    module _ (grow : List M.I → ℕ → ℕ)
        (grows : (i : M.I) (is : List M.I) (b : Box M.C) (u : Undo M.C) (us : List (Undo M.C)) → Hist M L.Good s (i ∷ is) b (u ∷ us) →
        length (take (N.kept (u ∷ us)) (u ∷ us)) ≡ grow (i ∷ is) (length us))
        (check : World M.C K.J → ℕ)
        (passes : (w : World M.C K.J) (us : List (Undo M.C)) → L.Good w.box → N.Holds w.journal us → check w ≡ 0) where
      record Right (w : W M K) (l : Left M.I) : Type 0 where
        us : List (Undo M.C)
        kept : Kept w l.inputs us
        size : length us ≡ l.held

      right-give :
          {w : W M K} {l : Left M.I} (i : M.I) (e : Effect M.C) → L.Fits i → M.rule i w.box ≡ gives e → Right w l →
          Right (after M K w e) (took grow i l)
      right-give {w} {l} i e f q r =
          let us = undo_of w.box e.count e.first ∷ r.us in
          record {
            us = take (N.kept us) us;
            kept = kept-give i e f q r.kept;
            size =
                grows i l.inputs e.box (undo_of w.box e.count e.first) r.us
                (more r.kept.good q (effect i w.box (gives e) f r.kept.good q).1 r.kept.hist)
                ∙ ap (grow (i ∷ l.inputs)) r.size;
          }

      right-gave :
          (w : W M K) (l : Left M.I) (i : M.I) (n : Next M.C) → L.Fits i → M.rule i w.box ≡ n → Right w l →
          Right (gave M K w (M.steps i) n).world (leaves grow M.step (give i) (gave M K w (M.steps i) n).number (gave M K w (M.steps i) n).steps l)
      right-gave w l i (refuses zero) f q r = absurd (omega (arith, effect i w.box (refuses 0) f r.kept.good q))
      right-gave w l i (refuses (suc n)) f q r = r
      right-gave w l i (gives e) f q r = right-give i e f q r

      abbrev Runs : ℕ → Type 0
      Runs n = (w : W M K) (l : Left M.I) → Right w l → Right (ran M K n w).world (took_times grow (ran M K n w).steps M.step l)

      right-stepped :
          (n : ℕ) → Runs n → (w : W M K) (l : Left M.I) (x : Next M.C) → M.rule M.step w.box ≡ x → Right w l →
          Right (stepped M K (ran M K n) w x).world (took_times grow (stepped M K (ran M K n) w x).steps M.step l)
      right-stepped n ih w l (refuses m) q r = r
      right-stepped n ih w l (gives e) q r = ih (after M K w e) (took grow M.step l) (right-give M.step e L.stepping q r)

      right-ran : (n : ℕ) → Runs n
      right-ran zero w l r = r
      right-ran (suc n) w l r = right-stepped n (right-ran n) w l (M.rule M.step w.box) refl r

      back-number : {w : W M K} {l : Left M.I} → Right w l → (plain M K back w).number ≡ back_number l.held
      back-number {w} {l} r = go r.us r.kept r.size
        where
          go : (us : List (Undo M.C)) → Kept w l.inputs us → length us ≡ l.held → (plain M K back w).number ≡ back_number l.held
          go [] k z = rw (← z, N.popped-none w.journal k.holds)
          go (u ∷ us) k z = rw (← z, (kept_back k).1)

      right-back : (w : W M K) (l : Left M.I) → Right w l → Right (plain M K back w).world (leaves grow M.step back (plain M K back w).number (plain M K back w).steps l)
      right-back w l r = go r.us r.kept r.size
        where
          go :
              (us : List (Undo M.C)) → Kept w l.inputs us → length us ≡ l.held →
              Right (plain M K back w).world (leaves grow M.step back (plain M K back w).number (plain M K back w).steps l)
          go [] k z = rw (N.popped-none w.journal k.holds) r
          go (u ∷ us) k z = rw (kept_back k).1 (record { us = us; kept = (kept_back k).2; size = omega (arith, z) })

      passed : {w : W M K} {l : Left M.I} → Right w l → check w ≡ 0
      passed {w} r = passes w r.us r.kept.good r.kept.holds

      right-one : (c : Call M.I) (p : Played M K check) → Apt M Fine L c → Right p.world p.left → Right (one M K check grow c p).world (one M K check grow c p).left
      right-one (give i) p f r = rw (passed r) (right-gave p.world p.left i (M.rule i p.world.box) f refl r)
      right-one (run n) p f r = rw (passed r, number-ran M K n p.world) (right-ran n p.world p.left r)
      right-one back p f r = rw (passed r) (right-back p.world p.left r)

      right-play :
          (cs : List (Call M.I)) (p : Played M K check) → AllApt M Fine L cs → Right p.world p.left →
          Right (play M K check grow cs p).world (play M K check grow cs p).left
      right-play [] p f r = r
      right-play (c ∷ cs) p f r = right-play cs (one M K check grow c p) f.1 (right-one c p f.0 r)

      pub exact : L.Good s → (j : K.J) → N.Holds j [] → (cs : List (Call M.I)) → AllApt M Fine L cs → Exactly M K check s (play M K check grow cs (fresh M K check s j))
      exact g j h cs f =
          let r =
          right-play cs (fresh M K check s j) f (record { us = []; kept = record { hist = lost refl; good = g; holds = h }; size = refl })
          in
          record {
            state = reached r.kept.hist;
            held = N.counted _ _ r.kept.holds ∙ r.size;
            refused = rw (passed r) (back-number r);
          }
