-- The breaks and watches that stay at the desk, a list of entries, and what the commands make of it.
use Rattle.std.specs.Prelude.{ℕ, Bool, true, cond, ◌&&◌, List, [], ◌∷◌, Option, Some, None, eqb, take}
use Rattle.entries.specs.declared.Entry.{Entry}
use Rattle.stops.specs.declared.list.Stops.{Stops}
use Rattle.stops.specs.declared.list.Gone.{Gone}
use Rattle.stops.specs.declared.list.Kind.{Kind}

-- a kind's number at the machine
abbrev pub kind_number : Kind → ℕ
kind_number Kind.Break = 1
kind_number Kind.Watch = 2

-- the list that is kept
abbrev pub list_of : Stops → List Entry
list_of s = take s.count s.entries

-- whether an address is the one that is named; each is where none is
abbrev pub named : Option ℕ → ℕ → Bool
named None a = true
named (Some b) a = eqb a b

-- "`-` deletes one or all"
abbrev pub gone : Gone → Entry → Bool
gone g e = eqb e.kind g.kind && named g.address e.address

-- the entries that stay, in their order
unfoldable pub kept : Gone → List Entry → List Entry
kept g [] = []
kept g (e ∷ l) = cond (gone g e) (kept g l) (e ∷ kept g l)

-- the first entry that is met, if one is
unfoldable pub first_of : (Entry → Bool) → List Entry → Option Entry
first_of f [] = None
first_of f (e ∷ l) = cond (f e) (Some e) (first_of f l)
