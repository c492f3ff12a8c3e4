-- The journal of fixed slots: a ring of 32-word records in lent words, for any record and any layout of 32 words.
use Rattle.std.specs.Prelude.{ℕ, zero, suc, ◌+◌, ◌-◌, ◌*◌, ◌/◌, min, List, cond, eqb, ltb, length, take, drop}
use Rattle.std.proofs.Math.Option.{Option, some, none}
use Rattle.std.proofs.Math.Seq.{paste}
use Rattle.history.specs.Trace.{Popped, denies, hands, Store}

pub record Ring : Type 0 where
  pub words : List ℕ
  pub next : ℕ
  pub held : ℕ

-- the slot after k, of n slots: after the last comes the first
abbrev pub slot_after : ℕ → ℕ → ℕ
slot_after n k = cond (eqb (k + 1) n) 0 (k + 1)

-- "moves next slot back (from 0 to the last)"
abbrev pub slot_before : ℕ → ℕ → ℕ
slot_before n zero = n - 1
slot_before n (suc k) = k

abbrev pub ring_of : List ℕ → ℕ → ℕ → Ring
ring_of ws next held = record { words = ws; next = next; held = held }

-- the 32 words of a slot
abbrev pub slot_words : List ℕ → ℕ → List ℕ
slot_words ws k = take 32 (drop (k * 32) ws)

-- "writes one record at the next slot, over the oldest if full"; "With no slots nothing is written": then next is below none
unfoldable pub pushed : ℕ → List ℕ → Ring → Ring
pushed n r j =
    cond (ltb j.next n) (ring_of (paste j.words (j.next * 32) r 32) (slot_after n j.next) (min n (j.held + 1))) j

-- the newest record: refused with 8 where none is held, with 9 where its words break the layout; the journal's words stay
abbrev pub popped : {U : Type 0} → ℕ → Option U → Ring → Popped U Ring
popped k none j = denies 9
popped k (some u) j = hands u (ring_of j.words k (j.held - 1))

abbrev pub popped_at : {U : Type 0} → (List ℕ → Option U) → ℕ → ℕ → Ring → Popped U Ring
popped_at dec k zero j = denies 8
popped_at dec k (suc n) j = popped k (dec (slot_words j.words k)) j

abbrev pub slots : List ℕ → ℕ
slots ws = length ws / 32

abbrev pub ring : {U : Type 0} → (U → List ℕ) → (List ℕ → Option U) → Store U
ring enc dec =
    record {
      J = Ring;
      held = λ j. j.held;
      push = λ u j. pushed (slots j.words) (enc u) j;
      pop = λ j. popped_at dec (slot_before (slots j.words) j.next) j.held j;
    }
