-- What contracts of the code cite beside the journal: a slot read where there may be none, a record taken back, and three words of a slot written.
use Rattle.std.specs.Prelude.{ℕ, ◌+◌, ◌-◌, ◌*◌, List, cond, ltb, replicate, set}
use Rattle.history.specs.Ring.{slot_words, slot_before, slots}
use Rattle.history.specs.declared.Place.{Place}
use Rattle.history.specs.declared.TakenBack.{TakenBack}

-- what a caller of the code gets to read: a slot's words, and 0 past the last slot
unfoldable pub readable : List ℕ → ℕ → List ℕ
readable ws k = cond (ltb k (slots ws)) (slot_words ws k) (replicate 32 0)

-- the newest record's words, and next slot and records held without it
abbrev pub newest_of : List ℕ → Place → TakenBack
newest_of ws p =
    let k = slot_before (slots ws) p.next in
    record { words = readable ws k; place = record { next = k; held = p.held - 1 } }

-- three words in a row, from the i-th on
abbrev pub three : List ℕ → ℕ → ℕ → ℕ → ℕ → List ℕ
three l i x y z = set (set (set l i x) (i + 1) y) (i + 2) z

-- three words of slot k, from the slot's i-th on; nothing where there is no such slot, or the slot ends before the third
unfoldable pub amended : List ℕ → ℕ → ℕ → ℕ → ℕ → ℕ → List ℕ
amended ws k i x y z = cond (ltb k (slots ws)) (cond (ltb i 30) (three ws (k * 32 + i) x y z) ws) ws
