-- Pen numbers, and manifests in which a pen is looked up.
use Rattle.std.specs.Prelude.{ℕ, ◌+◌, ◌-◌, ◌*◌, Bool, true, false, cond, ◌&&◌, List, [], ◌∷◌, leb, ltb, eqb, length, take, drop, Option, Some, None}
use Rattle.manifests.specs.declared.Part.{Part}
use Rattle.manifests.specs.declared.Held.{Held}
use Rattle.manifests.specs.declared.Held.TheVariants.{Today, LastGood}

-- a line's first byte, before the lines of the rest
abbrev pub joined : ℕ → List (List ℕ) → List (List ℕ)
joined x [] = (x ∷ []) ∷ []
joined x (l ∷ ls) = (x ∷ l) ∷ ls

-- lines end at LF; a CR is part of its line; bytes after the last LF are a line too
unfoldable pub lines : List ℕ → List (List ℕ)
lines [] = []
lines (x ∷ s) = cond (eqb x 10) ([] ∷ lines s) (joined x (lines s))

abbrev pub is_digit : ℕ → Bool
is_digit b = leb 48 b && leb b 57

abbrev pub all_digits : List ℕ → Bool
all_digits [] = true
all_digits (b ∷ s) = is_digit b && all_digits s

-- the number that digits make after one that others made
abbrev pub value_after : ℕ → List ℕ → ℕ
value_after v [] = v
value_after v (b ∷ s) = value_after (v * 10 + (b - 48)) s

-- "one decimal a line"; "numbers have 1 to 9 digits": so 007 and 7 are one
unfoldable pub number_of : List ℕ → Option ℕ
number_of s = cond ((leb 1 (length s) && leb (length s) 9) && all_digits s) (Some (value_after 0 s)) None

-- what stands before the first tab
unfoldable pub front : List ℕ → List ℕ
front [] = []
front (x ∷ s) = cond (eqb x 9) [] (x ∷ front s)

abbrev pub is_number : ℕ → Option ℕ → Bool
is_number n (Some m) = eqb m n
is_number n None = false

-- "each a decimal number, a tab and a name"; "one without such a number and a tab in front never matching"
unfoldable pub matches : ℕ → List ℕ → Bool
matches n line = ltb (length (front line)) (length line) && is_number n (number_of (front line))

-- "the first matching line counting": where its name lies, from behind the tab to the line's end, the first of these lines beginning at a place
unfoldable pub place_among : ℕ → ℕ → List (List ℕ) → Option Part
place_among n at [] = None
place_among n at (l ∷ ls) =
    cond (matches n l) (Some (record { from = at + (length (front l) + 1); to = at + length l })) (place_among n (at + (length l + 1)) ls)

abbrev pub place_of : ℕ → List ℕ → Option Part
place_of n list = place_among n 0 (lines list)

-- "looked up by number in today's manifest and otherwise in the last good one"
abbrev pub or_else : Option Part → Option Part → Option Held
or_else (Some p) other = Some (Today p)
or_else None (Some p) = Some (LastGood p)
or_else None None = None

abbrev pub by_number : Option ℕ → List ℕ → List ℕ → Option Held
by_number (Some n) today last = or_else (place_of n today) (place_of n last)
by_number None today last = None

-- a pen by its line; "pen in neither list or its line no number"
unfoldable pub held_of : List ℕ → List ℕ → List ℕ → Option Held
held_of line today last = by_number (number_of line) today last

-- "the name handed back is the very bytes of whichever list held it"
unfoldable pub name_of : List ℕ → List ℕ → Option Held → List ℕ
name_of today last (Some (Today p)) = take (p.to - p.from) (drop p.from today)
name_of today last (Some (LastGood p)) = take (p.to - p.from) (drop p.from last)
name_of today last None = []

-- which line that is: "the first matching line counting"
unfoldable pub first_match : ℕ → List (List ℕ) → Option (List ℕ)
first_match n [] = None
first_match n (l ∷ ls) = cond (matches n l) (Some l) (first_match n ls)

-- a line's name: all after its first tab
abbrev pub after_tab : List ℕ → List ℕ
after_tab line = drop (length (front line) + 1) line
