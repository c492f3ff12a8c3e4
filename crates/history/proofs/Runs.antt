-- A run, step by step, for any machine and any journal: what a loop's invariant needs; and a run may be cut anywhere.
use Prim.Native.Nat.{ℕ, zero, suc, ◌+◌, ◌-◌, ◌<◌, ◌≤◌}
use mathlib.Core.Path.{◌≡◌, refl, sym, ◌∙◌, ap}
use native.Mathlib.Omega.{arith}
use native.Mathlib.Nat.{sub-zero, zero-add}
use Rattle.history.specs.Trace.{Effect, Next, refuses, gives, Machine, Undo, Store, World, Cause, stopped, budget, Answer, answers, give, after, stepped, ran, plain}

module _ (M : Machine) (K : Store (Undo M.C)) where
  abbrev W : Type 0
  W = World M.C K.J

  -- an answer after so many steps and bus bytes
  abbrev pub plus : ℕ → ℕ → Answer M.C K.J → Answer M.C K.J
  plus s b a = answers a.number (s + a.steps) (b + a.bus) a.cause a.world

  same : {w : W} {c : Cause} {n n' s s' b b' : ℕ} → n ≡ n' → s ≡ s' → b ≡ b' → answers n s b c w ≡ answers n' s' b' c w
  same p q r = rw (p, q, r)

  pub number-ran : (n : ℕ) (w : W) → (ran M K n w).number ≡ 0
  number-ran zero w = refl
  number-ran (suc n) w = go (M.rule M.step w.box)
    where
      go : (x : Next M.C) → (stepped M K (ran M K n) w x).number ≡ 0
      go (refuses m) = refl
      go (gives e) = refl

  pub ran-start : (n : ℕ) (w : W) → ran M K n w ≡ plus 0 0 (ran M K (n - 0) w)
  ran-start n w = rw sub-zero (same refl (omega arith) (omega arith))

  pub ran-more :
      (n s b : ℕ) (w : W) (e : Effect M.C) → s < n → M.rule M.step w.box ≡ gives e →
      plus s b (ran M K (n - s) w) ≡ plus (s + 1) (b + e.bus) (ran M K (n - (s + 1)) (after M K w e))
  ran-more n s b w e l q =
      let k : n - s ≡ suc (n - (s + 1)) = omega arith in
      rw (k, q) (same (sym (number-ran (n - (s + 1)) (after M K w e))) (omega arith) (omega arith))

  pub ran-stopped : (n k s b : ℕ) (w : W) → M.rule M.step w.box ≡ refuses k → plus s b (ran M K n w) ≡ answers 0 s b stopped w
  ran-stopped zero k s b w q = rw q (same refl (omega arith) (omega arith))
  ran-stopped (suc n) k s b w q = rw q (same refl (omega arith) (omega arith))

  pub ran-done : (n s b : ℕ) (w : W) (e : Effect M.C) → n ≤ s → M.rule M.step w.box ≡ gives e → plus s b (ran M K (n - s) w) ≡ answers 0 s b budget w
  ran-done n s b w e l q = let k : n - s ≡ 0 = omega arith in rw (k, q) (same refl (omega arith) (omega arith))

  -- one run after another
  abbrev pub followed : Answer M.C K.J → Answer M.C K.J → Answer M.C K.J
  followed a b = answers 0 (a.steps + b.steps) (a.bus + b.bus) b.cause b.world

  halts : (m k : ℕ) (w : W) → M.rule M.step w.box ≡ refuses k → answers 0 0 0 stopped w ≡ followed (answers 0 0 0 stopped w) (ran M K m w)
  halts m k w q = sym (ran-stopped m k 0 0 w q) ∙ same (number-ran m w) refl refl

  abbrev Cut : ℕ → ℕ → W → Type 0
  Cut n m w = ran M K (n + m) w ≡ followed (ran M K n w) (ran M K m (ran M K n w).world)

  one_more : (n m : ℕ) (w : W) → ((v : W) → Cut n m v) → (x : Next M.C) → M.rule M.step w.box ≡ x
      → ran M K (suc (n + m)) w ≡ followed (ran M K (suc n) w) (ran M K m (ran M K (suc n) w).world)
  one_more n m w h (refuses k) q = rw q (halts m k w q)
  one_more n m w h (gives e) q =
      rw q
      (ap (λ (a : Answer M.C K.J). answers 0 (suc a.steps) (e.bus + a.bus) a.cause a.world) (h (after M K w e))
      ∙ same refl (omega arith) (omega arith))

  -- n steps and then m give what n + m give
  pub ran-cut : (n m : ℕ) (w : W) → Cut n m w
  ran-cut zero m w = ap (λ k. ran M K k w) (zero-add m) ∙ same (number-ran m w) (omega arith) (omega arith)
  ran-cut (suc n) m w =
      let l : suc n + m ≡ suc (n + m) = omega arith in
      ap (λ k. ran M K k w) l ∙ one_more n m w (ran-cut n m) (M.rule M.step w.box) refl

  -- a lone step is a run of one
  pub ran-one :
      (w : W) (e : Effect M.C) → M.rule M.step w.box ≡ gives e →
      ((ran M K 1 w).world ≡ (plain M K (give M.step) w).world) × ((ran M K 1 w).bus ≡ (plain M K (give M.step) w).bus)
  ran-one w e q = (rw q, rw q (omega arith))
