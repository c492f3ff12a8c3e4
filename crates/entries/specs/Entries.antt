-- Q-9's list: "each an address, a kind (1 break, 2 watch) and a hit count". Which entries a stop meets, how they are counted, and which is named.
use Rattle.std.specs.Prelude.{ℕ, suc, ◌+◌, Bool, false, cond, ◌&&◌, ◌||◌, List, [], ◌∷◌, map, eqb, ltb, Option, Some, None}
use Rattle.std.specs.List.{list_all}
use Rattle.word.specs.Word.{above}
use Rattle.entries.specs.declared.Entry.{Entry}
use Rattle.entries.specs.declared.Met.{Met}

abbrev pub entry : ℕ → ℕ → ℕ → Entry
entry a k h = record { address = a; kind = k; hits = h }

-- what a stop meets: entries of a kind at one of n bytes (0, 1 or 2) from the address a on
abbrev pub met_at : ℕ → ℕ → ℕ → Met
met_at k n a = record { kind = k; count = n; first = a }

-- is x the address of one of n bytes from a on; "the second address is the first plus 1 modulo 65,536"
abbrev pub among : ℕ → ℕ → ℕ → Bool
among n a x = (ltb 0 n && eqb x a) || (ltb 1 n && eqb x (above a))

abbrev pub meets : Met → Entry → Bool
meets x e = eqb e.kind x.kind && among x.count x.first e.address

-- some entry of a list
unfoldable pub any_of : (Entry → Bool) → List Entry → Bool
any_of f [] = false
any_of f (e ∷ l) = f e || any_of f l

-- "Hit counts stop at 65,535"
abbrev pub raised : ℕ → ℕ
raised h = cond (ltb h 65535) (h + 1) h

unfoldable pub counted : Met → Entry → Entry
counted x e = cond (meets x e) (entry e.address e.kind (raised e.hits)) e

-- "When several entries match, all are counted"
unfoldable pub marked : Met → List Entry → List Entry
marked x l = map (counted x) l

-- "and the first in the list is named": its place, from 0; the list's length where there is none
unfoldable pub place_of : (Entry → Bool) → List Entry → ℕ
place_of f [] = 0
place_of f (e ∷ l) = cond (f e) 0 (suc (place_of f l))

-- that place, where there is one
abbrev pub found : (Entry → Bool) → List Entry → Option ℕ
found f l = cond (any_of f l) (Some (place_of f l)) None

-- 41: "unknown kind"
unfoldable pub all_known : List ℕ → Bool
all_known ks = list_all (λ (k : ℕ). eqb k 1 || eqb k 2) ks
