-- Lists made by a function.
use Rattle.std.specs.Prelude.{ℕ, zero, suc, List, [], ◌∷◌}

-- f at each of n numbers, from i on
abbrev pub images : {A : Type 0} → (ℕ → A) → ℕ → ℕ → List A
images f i zero = []
images f i (suc n) = f i ∷ images f (suc i) n
