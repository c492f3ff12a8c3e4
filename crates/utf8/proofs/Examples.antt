-- The paper's example, and what is refused beside it.
use mathlib.Core.Path.{◌≡◌, refl}
use mathlib.Core.List.{[], ◌∷◌}
use Rattle.utf8.specs.Utf8.{letter_of, points_after}
use Rattle.utf8.specs.Latin.{judged_of, latin_of}
use Rattle.utf8.specs.declared.Unfit.TheVariants.{NotUtf8, NotLatin}
use Rattle.std.specs.Prelude.{Ok, Err}

-- "å is 0xe5"
ring : latin_of (0xc3 ∷ 0xa5 ∷ []) ≡ 0xe5 ∷ []
unfolding latin_of points_after letter_of
ring = refl

ring-fine : judged_of (0x41 ∷ 0xc3 ∷ 0xa5 ∷ []) ≡ Ok 2
unfolding judged_of points_after letter_of
ring-fine = refl

-- a letter over 0xff, and NUL
wide : judged_of (0xc4 ∷ 0x80 ∷ []) ≡ (Err NotLatin)
unfolding judged_of points_after letter_of
wide = refl

nul : judged_of (0x41 ∷ 0 ∷ []) ≡ (Err NotLatin)
unfolding judged_of points_after letter_of
nul = refl

-- 80 counts before 81, wherever either stands
wide-and-bad : judged_of (0xc4 ∷ 0x80 ∷ 0xe5 ∷ []) ≡ (Err NotUtf8)
unfolding judged_of points_after letter_of
wide-and-bad = refl
