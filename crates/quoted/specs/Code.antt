-- How the code goes through what stands between quotes.
use Rattle.std.specs.Prelude.{ℕ, Bool, true, false, List, length, set, Option, Some, None}
use Rattle.std.proofs.lemmas.List.Edits.{sets}
use Rattle.quoted.specs.declared.Mode.{Mode}
use Rattle.quoted.specs.declared.Mode.TheVariants.{Plain, Escape, Code, Digit, Fault}
use Rattle.quoted.specs.declared.Reading.{Reading}
use Rattle.quoted.specs.declared.Reading.TheVariants.{On, Char}

abbrev pub mode_after : Reading → Mode
mode_after (On m) = m
mode_after (Char b) = Plain

-- how many characters a turn reads
abbrev pub chars_in : Reading → ℕ
chars_in (On m) = 0
chars_in (Char b) = 1

-- the character of a turn that reads one, at a place
abbrev pub stored : Reading → ℕ → List ℕ → List ℕ
stored (On m) at out = out
stored (Char b) at out = set out at b

abbrev pub whole : Mode → Bool
whole Plain = true
whole Escape = false
whole Code = false
whole (Digit h) = false
whole Fault = false

-- how many characters, with any room
abbrev pub counted : Option (List ℕ) → Option ℕ
counted None = None
counted (Some cs) = Some (length cs)

-- characters, stored from a place on
abbrev pub written : Option (List ℕ) → ℕ → List ℕ → List ℕ
written None at out = out
written (Some cs) at out = sets out at cs
