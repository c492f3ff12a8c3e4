-- The ring of 32-word records keeps the laws of a journal of a fixed number of slots.
use Prim.Native.Nat.{ℕ, zero, suc, ◌+◌, ◌-◌, ◌*◌, ◌/◌, ◌≤◌, ◌<◌}
use mathlib.Core.Path.{◌≡◌, ◌∙◌, sym, ap}
use mathlib.Core.List.{List, [], ◌∷◌, append_assoc}
use mathlib.Core.Option.{Option, some}
use mathlib.Core.Logic.{◌⊎◌, inl, inr, ⊎_elim}
use native.Mathlib.Omega.{arith}
use native.Mathlib.Numerals.{add-one}
use native.Mathlib.Decide.{dec_lt, ℕ_discrete}
use borrow.Author.Tests.{eq-eqb, ne_eqb}
use lib.ListN.{length, take, drop, get_or, length-take, length-drop, get_or-append}
use lib.Seq.{paste, length-paste, ext_get_or, get_or-take, get_or-drop, drop_at, take_at, take_all, length-take-le, drop-paste}
use Rattle.history.specs.Trace.{hands}
use Rattle.history.proofs.Exact.{Keeping}
use Rattle.history.proofs.Pushing.{push-in, push-out}
use Rattle.history.specs.Ring.{Ring, slot_after, slot_before, slot_words, pushed, ring}

-- ---- a pasted stretch, read by index
module _ (d : List ℕ) (at : ℕ) (r : List ℕ) (fits : at + 32 ≤ length d) (size : length r ≡ 32) where
  pub length-here : length (paste d at r 32) ≡ length d
  length-here = length-paste d at r 32 fits (omega arith)

  head-length : length (take at d) ≡ at
  head-length = length-take-le at d (omega arith)

  get_d-low : (k : ℕ) → k < at → get_or (paste d at r 32) k 0 ≡ get_or d k 0
  get_d-low k h = rw append_assoc (get_or-append (take at d) _ 0 k (omega (arith, head-length)) ∙ get_or-take at d k 0 h)

  get_d-high : (k : ℕ) → at + 32 ≤ k → get_or (paste d at r 32) k 0 ≡ get_or d k 0
  get_d-high k h =
      let e : k ≡ at + 32 + (k - (at + 32)) = omega arith in
      rw e (sym (get_or-drop (at + 32) _ (k - (at + 32)) 0) ∙ ap (λ (l : List ℕ). get_or l (k - (at + 32)) 0) (drop-paste d at r 32 (omega arith) (omega arith)) ∙ get_or-drop (at + 32) d _ 0)

  words-here : take 32 (drop at (paste d at r 32)) ≡ r
  words-here =
      let h = head-length in
      rw (append_assoc, drop_at (take at d) _ at h, take_at (take 32 r) _ 32 (length-take-le 32 r (omega arith))) (take_all 32 r (omega arith))

slot-ext :
    (x y : List ℕ) (p : ℕ) → length x ≡ length y → p * 32 + 32 ≤ length y →
    ((i : ℕ) → i < 32 → get_or x (p * 32 + i) 0 ≡ get_or y (p * 32 + i) 0) → slot_words x p ≡ slot_words y p
slot-ext x y p e h f =
    ext_get_or 0 _ _ (simp (length-take, length-drop) (rw e))
    (λ i q. let z : i < 32 = omega (arith, length-take 32 (drop (p * 32) x)) in
    get_or-take 32 (drop (p * 32) x) i 0 z ∙ get_or-drop (p * 32) x i 0 ∙ f i z ∙ sym (get_or-drop (p * 32) y i 0) ∙ sym (get_or-take 32 (drop (p * 32) y) i 0 z))

-- another slot keeps its words
slot-other :
    (d : List ℕ) (q p : ℕ) (r : List ℕ) → q * 32 + 32 ≤ length d → p * 32 + 32 ≤ length d → length r ≡ 32 → (p ≡ q → ⊥) →
    slot_words (paste d (q * 32) r 32) p ≡ slot_words d p
slot-other d q p r hq hp size ne =
    slot-ext _ d p (length-here d (q * 32) r hq size) hp (λ i z. go i z (dec_lt p q))
  where
    go : (i : ℕ) → i < 32 → Dec (p < q) → get_or (paste d (q * 32) r 32) (p * 32 + i) 0 ≡ get_or d (p * 32 + i) 0
    go i z (yes l) = get_d-low d (q * 32) r hq size (p * 32 + i) (omega arith)
    go i z (no l) = get_d-high d (q * 32) r hq size (p * 32 + i) (let m : q < p = omega arith in omega arith)

-- ---- slots, counted backwards
pub before-below : (n k : ℕ) → k < n → slot_before n k < n
before-below n zero h = omega arith
before-below n (suc k) h = omega arith

after-cases : (n q : ℕ) → q < n → ((slot_after n q ≡ 0) × (q + 1 ≡ n)) ⊎ ((slot_after n q ≡ q + 1) × (q + 1 < n))
after-cases n q h = go (ℕ_discrete (q + 1) n)
  where
    go : Dec (q + 1 ≡ n) → ((slot_after n q ≡ 0) × (q + 1 ≡ n)) ⊎ ((slot_after n q ≡ q + 1) × (q + 1 < n))
    go (yes e) = inl (rw (eq-eqb (q + 1) n e), e)
    go (no e) = inr (rw (ne_eqb (q + 1) n e), omega arith)

before-after : (n q : ℕ) → q < n → slot_before n (slot_after n q) ≡ q
before-after n q h = ⊎_elim (λ w. rw w.0 (omega (arith, w.1))) (λ w. rw (w.0, add-one)) (after-cases n q h)

pub after-in : (n q : ℕ) → q < n → slot_after n q < n
after-in n q h = ⊎_elim (λ w. rw w.0 (omega arith)) (λ w. rw w.0 w.1) (after-cases n q h)

-- q is none of the slots before p that the records take
abbrev Clear : {U : Type 0} → ℕ → ℕ → ℕ → List U → Type 0
Clear n p q [] = Unit {0}
Clear n p q (u ∷ us) = (slot_before n p ≡ q → ⊥) × Clear n (slot_before n p) q us

clear-high : {U : Type 0} (us : List U) (n p q : ℕ) → q + 1 + length us ≤ p → Clear n p q us
clear-high [] n p q h = tt
clear-high (u ∷ us) n zero q h = absurd (omega arith)
clear-high (u ∷ us) n (suc p) q h = (λ e. omega arith, clear-high us n p q (omega arith))

clear-low : {U : Type 0} (us : List U) (n p q : ℕ) → p ≤ q → q < n → length us + q + 1 ≤ p + n → Clear n p q us
clear-low [] n p q l m h = tt
clear-low (u ∷ us) n zero q l m h = (λ e. omega arith, clear-high us n (n - 1) q (omega arith))
clear-low (u ∷ us) n (suc p) q l m h = (λ e. omega arith, clear-low us n p q (omega arith) m (omega arith))

-- ---- the ring
module _ {U : Type 0} (enc : U → List ℕ) (dec : List ℕ → Option U) (Fine : U → Type 0) where
  -- the slots before p hold the records, newest first
  abbrev Back : ℕ → List ℕ → ℕ → List U → Type 0
  Back n ws p [] = Unit {0}
  Back n ws p (u ∷ us) = (slot_words ws (slot_before n p) ≡ enc u) × Fine u × Back n ws (slot_before n p) us

  back-take : (us : List U) (k n : ℕ) (ws : List ℕ) (p : ℕ) → Back n ws p us → Back n ws p (take k us)
  back-take us zero n ws p b = tt
  back-take [] (suc k) n ws p b = tt
  back-take (u ∷ us) (suc k) n ws p b = (b.0, b.1, back-take us k n ws (slot_before n p) b.2)

  back-other :
      (us : List U) (n : ℕ) (ws : List ℕ) (p q : ℕ) (r : List ℕ) → length ws ≡ n * 32 → p < n → q < n → length r ≡ 32 → Clear n p q us →
      Back n ws p us → Back n (paste ws (q * 32) r 32) p us
  back-other [] n ws p q r e hp hq size c b = tt
  back-other (u ∷ us) n ws p q r e hp hq size c b =
      let z = before-below n p hp in
      (slot-other ws q (slot_before n p) r (omega arith) (omega arith) size c.0 ∙ b.0, b.1, back-other us n ws (slot_before n p) q r e z hq size c.1 b.2)

  pub record RingHolds (n : ℕ) (j : Ring) (us : List U) : Type 0 where
    pub sized : length j.words ≡ n * 32
    pub inside : j.next ≤ n - 1
    pub count : j.held ≡ length us
    pub room : length us ≤ n
    pub back : Back n j.words j.next us

  module _ (wide : (u : U) → Fine u → length (enc u) ≡ 32) (reads : (u : U) → Fine u → dec (enc u) ≡ some u) where
    pub push-holds : (n : ℕ) (j : Ring) (u : U) (us : List U) → Fine u → RingHolds n j us → RingHolds n (pushed n (enc u) j) (take n (u ∷ us))
    push-holds zero j u us f h =
        rw (push-out 0 (enc u) j (omega arith))
        (record { sized = h.sized; inside = h.inside; count = omega (arith, h.count, h.room); room = omega arith; back = tt })
    push-holds (suc m) j u us f h =
        let n = suc m in
        let q : j.next < n = omega (arith, h.inside) in
        let fit : j.next * 32 + 32 ≤ length j.words = omega (arith, h.sized) in
        rw (push-in n (enc u) j q)
        (record {
          sized = length-here j.words (j.next * 32) (enc u) fit (wide u f) ∙ h.sized;
          inside = omega (arith, after-in n j.next q);
          count = simp length-take (omega (arith, h.count));
          room = simp length-take (omega arith);
          back =
              rw (before-after n j.next q) (
                words-here j.words (j.next * 32) (enc u) fit (wide u f),
                f,
                back-other (take m us) n j.words j.next j.next (enc u) h.sized q q (wide u f)
                    (clear-low (take m us) n j.next j.next (omega arith) q (omega (arith, length-take m us)))
                    (back-take us m n j.words j.next h.back),
              );
        })

    pub slots-are : (n : ℕ) (j : Ring) (us : List U) → RingHolds n j us → length j.words / 32 ≡ n
    slots-are n j us h = omega (arith, h.sized)

    pub pop-holds :
        (n : ℕ) (j : Ring) (u : U) (us : List U) → RingHolds n j (u ∷ us) →
        (j' : Ring) × ((ring enc dec).pop j ≡ hands u j') × RingHolds n j' us
    pop-holds n j u us h =
        let p = slot_before n j.next in
        let q : j.next < n = omega (arith, h.inside, h.room) in (
          record { words = j.words; next = p; held = j.held - 1 },
          rw (slots-are n j (u ∷ us) h, h.count, h.back.0, reads u h.back.1),
          record {
            sized = h.sized;
            inside = omega (arith, before-below n j.next q);
            count = omega (arith, h.count);
            room = omega (arith, h.room);
            back = h.back.2;
          },
        )

    -- the journal's laws, for n slots
    abbrev pub keeping : ℕ → Keeping (ring enc dec) Fine
    keeping n =
        record {
          Holds = RingHolds n;
          kept = λ us. n;
          counted = λ j us h. h.count;
          pushed = λ j u us f h. rw (slots-are n j us h) (push-holds n j u us f h);
          popped-none = λ j h. rw h.count;
          popped = λ j u us h. pop-holds n j u us h;
        }
