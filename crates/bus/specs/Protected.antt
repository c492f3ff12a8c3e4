-- Q-4: "an interval of addresses that the processor can't write".
use Rattle.std.specs.Prelude.{◌≡◌, true, List, ℕ, length}
use Rattle.word.specs.Memory.{byte_in}
use Rattle.bus.specs.Addresses.{dropped}
use Rattle.bus.specs.declared.state.Stretch.{Stretch}

-- what the memory m becomes, m', is as long, and each protected RAM byte is as it was
pub record Spares (p : Stretch) (m m' : List ℕ) : Type 0 where
  pub long : length m' ≡ length m
  pub bytes : (a : ℕ) → dropped p (length m) a ≡ true → byte_in m' a ≡ byte_in m a

-- and the protected addresses, p before and p' after, are the same
pub record Sparing (p : Stretch) (m : List ℕ) (p' : Stretch) (m' : List ℕ) : Type 0 where
  pub stretch : p' ≡ p
  pub ram : Spares p m m'
