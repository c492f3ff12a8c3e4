-- How the code has a list by value: its first 64 entries without their hits, and how many there are.
use Rattle.std.specs.Prelude.{ℕ, ◌+◌, cond, List, [], ◌∷◌, ltb, replicate, set, fold}
use Rattle.entries.specs.Entries.{entry, counted}
use Rattle.entries.specs.declared.Entry.{Entry}
use Rattle.entries.specs.declared.Met.{Met}
use Rattle.entries.specs.declared.Points.{Points}

-- an entry without its hits
abbrev pub bare : Entry → Entry
bare e = entry e.address e.kind 0

abbrev pub points : ℕ → List Entry → Points
points n l = record { count = n; entries = l }

abbrev pub no_points : Points
no_points = points 0 (replicate 64 (entry 0 0 0))

-- one entry more; after 64 only the count tells that there are too many
unfoldable pub added : Points → Entry → Points
added p e =
    cond (ltb p.count 64)
    (points (p.count + 1) (set p.entries p.count (bare e)))
    (points 65 p.entries)

unfoldable pub added_all : Points → List Entry → Points
added_all p l = fold added p l

abbrev pub points_of : List Entry → Points
points_of l = added_all no_points l

-- hits that rise, of a list in columns
unfoldable pub raised_all : Met → List ℕ → List ℕ → List ℕ → List ℕ
raised_all x (a ∷ r) (k ∷ ks) (h ∷ hs) = (counted x (entry a k h)).hits ∷ raised_all x r ks hs
raised_all x [] ks hs = hs
raised_all x (a ∷ r) [] hs = hs
raised_all x (a ∷ r) (k ∷ ks) [] = []
