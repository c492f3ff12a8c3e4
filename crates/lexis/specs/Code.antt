-- How the code goes through digits.
use Rattle.std.specs.Prelude.{ℕ, ◌+◌, ◌*◌, min, true, false, cond, List, [], ◌∷◌, eqb, ltb, Option, Some, None, Result, Err}
use Rattle.letters.specs.Letters.{hex_value}
use Rattle.lexis.specs.Numbers.{valued_of}
use Rattle.lexis.specs.declared.numbers.Figures.{Figures}
use Rattle.lexis.specs.declared.numbers.Value.{Value}
use Rattle.lexis.specs.declared.numbers.Fault.{Fault}
use Rattle.lexis.specs.declared.numbers.Fault.TheVariants.{Bad}

-- the digits read so far with a byte that is no underscore, by its value as a digit; none where it is no digit of the base
abbrev pub with_figure : ℕ → Figures → Option ℕ → Option Figures
with_figure base d None = None
with_figure base d (Some x) = cond (ltb x base) (Some (record { value = min 65536 (d.value * base + x); count = min 9 (d.count + 1); digit = true })) None

-- the digits read so far with one byte more; none where it may not stand there
unfoldable pub longer_of : ℕ → Figures → ℕ → Option Figures
longer_of base d b = cond (eqb b 95) (cond d.digit (Some (record { value = d.value; count = d.count; digit = false })) None) (with_figure base d (hex_value b))

-- what comes of the next bytes, where the ones before could stand
abbrev pub on_from : Option Figures → (Figures → Option Figures) → Option Figures
on_from None k = None
on_from (Some d) k = k d

abbrev pub gone_on : ℕ → Figures → List ℕ → Option Figures
gone_on base d [] = Some d
gone_on base d (b ∷ bs) = on_from (longer_of base d b) (λ e. gone_on base e bs)

abbrev pub no_figures : Figures
no_figures = record { value = 0; count = 0; digit = false }

abbrev pub figures_of : ℕ → List ℕ → Option Figures
figures_of base l = gone_on base no_figures l

unfoldable pub judged_of : ℕ → Option Figures → Result Value Fault
judged_of base None = Err Bad
judged_of base (Some d) = cond d.digit (valued_of base d.value d.count) (Err Bad)

abbrev pub chars_value : ℕ → ℕ → ℕ → Value
chars_value a b n = record { bits = a + 256 * b; word = eqb n 2; negative = false }
