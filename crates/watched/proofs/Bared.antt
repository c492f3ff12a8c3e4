-- A list by value that was gathered has no hits: it is itself without them.
use Prim.Native.Nat.{◌+◌}
use mathlib.Core.Path.{◌≡◌, ap, ◌∙◌}
use mathlib.Core.Bool.{Bool, true, false, cond}
use mathlib.Core.List.{List, [], ◌∷◌, map}
use lib.Dec.{ltb}
use lib.LanesLaws.{map-replicate}
use lib.ListN.{set}
use lib.Seq.{map-set}
use Rattle.entries.specs.Entries.{entry}
use Rattle.entries.specs.Code.{bare, points, no_points, added, added_all, points_of}
use Rattle.entries.specs.declared.Entry.{Entry}
use Rattle.entries.specs.declared.Points.{Points}
use Rattle.watched.specs.Code.{bared}

bared-added : (p : Points) (e : Entry) → bared p ≡ p → bared (added p e) ≡ added p e
unfolding added
bared-added p e h = go (ltb p.count 64)
  where
    same : map bare p.entries ≡ p.entries
    same = ap (λ (q : Points). q.entries) h

    on : Bool → Points
    on t = cond t (points (p.count + 1) (set p.entries p.count (bare e))) (points 65 p.entries)

    go : (t : Bool) → bared (on t) ≡ on t
    go true = ap (points (p.count + 1)) (map-set bare p.entries p.count (bare e) ∙ ap (λ (l : List Entry). set l p.count (bare e)) same)
    go false = ap (points 65) same

bared-all : (l : List Entry) (p : Points) → bared p ≡ p → bared (added_all p l) ≡ added_all p l
unfolding added_all
bared-all [] p h = h
bared-all (e ∷ l) p h = bared-all l (added p e) (bared-added p e h)

pub bared-points : (l : List Entry) → bared (points_of l) ≡ points_of l
bared-points l = bared-all l no_points (ap (points 0) (map-replicate bare 64 (entry 0 0 0)))

-- so whoever has a list's points has them without hits
pub of_points : (p : Points) (l : List Entry) → p ≡ points_of l → bared p ≡ points_of l
of_points p l e = ap bared e ∙ bared-points l
