-- Bytes put one after the other into a room.
use Rattle.std.specs.Prelude.{◌≡◌, ℕ, ◌+◌, List, ◌++◌, length, take}

-- some bytes more stand behind those that a room was filled with
abbrev pub Longer : List ℕ → ℕ → List ℕ → ℕ → List ℕ → Type 0
Longer bytes filled room after changed = (after ≡ filled + length bytes) × (take after changed ≡ take filled room ++ bytes)
