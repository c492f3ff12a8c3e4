-- Next slot and records held: where checks 1 to 3 pass they are at most 1,024, and every call keeps that; a refusal leaves them as they were.
use Prim.Native.Nat.{ℕ, zero, suc, ◌*◌, ◌/◌, ◌%◌, ◌≤◌, ◌<◌}
use mathlib.Core.Path.{◌≡◌, refl}
use mathlib.Core.Bool.{Bool, true, false, ◌&&◌, ◌||◌}
use mathlib.Core.List.{List}
use mathlib.Core.Option.{Option, some, none}
use native.Mathlib.Omega.{arith}
use native.Mathlib.Decide.{dec_lt}
use lib.Dec.{T, leb, ltb, eqb, ltb→lt, leb→le, eqb→eq}
use lib.ListN.{length}
use Rattle.bus.specs.State.{word}
use Rattle.bus.specs.declared.state.Cpu.{Cpu}
use Rattle.bus.specs.declared.state.Stretch.{Stretch}
use Rattle.history.specs.Trace.{Next, refuses, gives, Popped, denies, hands, Undo, Answer, Call, give, run, back, undo_of, guarded, gave, backed, stepped, ran, plain, answer}
use Rattle.history.specs.Ring.{Ring, slots, slot_before, slot_words, pushed, popped, popped_at}
use Rattle.history.proofs.Pushing.{push-in, push-out}
use Rattle.history.proofs.RingLaws.{length-here, after-in}
use Rattle.history.proofs.Runs.{number-ran}
use Rattle.records.specs.Record.{record_with, record_of, decoded}
use Rattle.calls.specs.Inputs.{Input, step, next_of, steps_of, machine}
use Rattle.calls.specs.Calls.{W, ram_fits, first_of, check_of, stretch_of, journal_of, went, answer_of, plain_of}
use Rattle.exact.specs.Fields.{Placed, PlacesWhole}

-- what the calls keep of a journal
pub record Sits (j : Ring) : Type 0 where
  pub size : length j.words ≤ 32768
  pub next : j.next ≤ 1024
  pub held : j.held ≤ 1024

-- ---- the checks
passed : (a b l c h n : Bool) → first_of a (b && l) (c && (h && n)) ≡ 0 → T l × T h × T n
passed true true true true true true e = (tt, tt, tt)
passed true true true true true false e = absurd (omega arith)
passed true true true true false n e = absurd (omega arith)
passed true true true false h n e = absurd (omega arith)
passed true true false c h n e = absurd (omega arith)
passed true false l c h n e = absurd (omega arith)
passed false b l c h n e = absurd (omega arith)

next_small : (n next : ℕ) → n ≤ 1024 → T (ltb next n || (eqb n 0 && eqb next 0)) → next ≤ 1024
next_small n next h t = go (ltb next n) (eqb n 0) (eqb next 0) (ltb→lt next n) (eqb→eq next 0) t
  where
    go : (a b c : Bool) → (T a → next < n) → (T c → next ≡ 0) → T (a || (b && c)) → next ≤ 1024
    go true b c l z t = omega (arith, l tt)
    go false true c l z t = omega (arith, z t)
    go false false c l z t = absurd t

checks-sit : (w : W) → check_of w ≡ 0 → Sits w.journal
unfolding check_of
checks-sit w e =
    let j = w.journal in
    let k = length j.words in
    let n = k / 32 in
    let p =
    passed (ram_fits (length w.box.ram)) (eqb (k % 32) 0) (leb k 32768) (leb (word w.box.cpu.csrs 0) 511) (leb j.held n)
    (ltb j.next n || (eqb n 0 && eqb j.next 0)) e
    in
    let size : length j.words ≤ 32768 = leb→le (length j.words) 32768 p.0 in
    record { size = size; next = next_small n j.next (omega arith) p.2; held = omega (arith, leb→le j.held n p.1) }

-- ---- a record pushed and a record taken back
push-sits : (r : List ℕ) (j : Ring) → length r ≡ 32 → Sits j → Sits (pushed (slots j.words) r j)
push-sits r j l s = go (dec_lt j.next n)
  where
    n : ℕ
    n = slots j.words

    go : Dec (j.next < n) → Sits (pushed n r j)
    go (yes h) =
        rw (push-in n r j h)
        (record {
          size = omega (arith, length-here j.words (j.next * 32) r (omega (arith, h)) l, s.size);
          next = omega (arith, after-in n j.next h, s.size);
          held = omega (arith, s.size);
        })
    go (no h) = rw (push-out n r j (omega arith)) s

long : (u : Undo Cpu) → length (record_of u) ≡ 32
unfolding record_with
long u = refl

before_small : (n k : ℕ) → n ≤ 1024 → k ≤ 1024 → slot_before n k ≤ 1024
before_small n zero h l = omega arith
before_small n (suc k) h l = omega arith

Handed : Popped (Undo Cpu) Ring → Type 0
Handed (denies n) = Unit {0}
Handed (hands u j) = Sits j

abbrev SitsIn : Answer Cpu Ring → Type 0
SitsIn a = Sits a.world.journal

-- by the journal of any protected addresses
module _ (p : Stretch) where
  pop-sits : (k h : ℕ) (j : Ring) → k ≤ 1024 → Sits j → Handed (popped_at (decoded p) k h j)
  unfolding Handed
  pop-sits k zero j l s = tt
  pop-sits k (suc n) j l s = go (decoded p (slot_words j.words k))
    where
      go : (x : Option (Undo Cpu)) → Handed (popped k x j)
      go none = tt
      go (some u) = record { size = s.size; next = l; held = omega (arith, s.held) }

  -- ---- one call
  gave-sits : (w : W) (s : ℕ) (x : Next Cpu) → Sits w.journal → SitsIn (gave machine (journal_of p) w s x)
  gave-sits w s (refuses n) h = h
  gave-sits w s (gives e) h = push-sits _ w.journal (long (undo_of w.box e.count e.first)) h

  stepped-sits : (k : W → Answer Cpu Ring) (w : W) (x : Next Cpu) → ((v : W) → Sits v.journal → SitsIn (k v)) → Sits w.journal
      → SitsIn (stepped machine (journal_of p) k w x)
  stepped-sits k w (refuses n) f h = h
  stepped-sits k w (gives e) f h = f (went w e) (gave-sits w 0 (gives e) h)

  ran-sits : (n : ℕ) (w : W) → Sits w.journal → SitsIn (ran machine (journal_of p) n w)
  ran-sits zero w h = h
  ran-sits (suc n) w h = stepped-sits (ran machine (journal_of p) n) w (next_of step w.box) (ran-sits n) h

  backed-sits : (w : W) (x : Popped (Undo Cpu) Ring) → Sits w.journal → Handed x → SitsIn (backed machine (journal_of p) w x)
  unfolding Handed
  backed-sits w (denies n) h l = h
  backed-sits w (hands u j) h l = l

  plain-sits : (c : Call Input) (w : W) → Sits w.journal → SitsIn (plain machine (journal_of p) c w)
  plain-sits (give i) w h = gave-sits w (steps_of i) (next_of i w.box) h
  plain-sits (run n) w h = ran-sits n w h
  plain-sits back w h =
      let j = w.journal in
      backed-sits w ((journal_of p).pop j) h (pop-sits _ j.held j (before_small (slots j.words) j.next (omega (arith, h.size)) h.next) h)

guarded-sits : (n : ℕ) (w : W) (a : Answer Cpu Ring) → Sits w.journal → SitsIn a → SitsIn (guarded n w a)
guarded-sits zero w a h l = l
guarded-sits (suc n) w a h l = h

pub call-sits : (p : Stretch) (c : Call Input) (w : W) → Sits w.journal → SitsIn (answer machine (journal_of p) check_of c w)
call-sits p c w h = guarded-sits (check_of w) w (plain machine (journal_of p) c w) h (plain-sits p c w h)

-- where checks 1 to 3 pass, next slot and records held are at most 1,024 after any call
pub places : (c : Call Input) (w : W) → check_of w ≡ 0 → Placed (answer_of c w).world.journal
places c w e =
    let l = call-sits (stretch_of w) c w (checks-sit w e) in
    record { next = l.next; held = l.held }

-- an accepted call passed the checks
accepted : (n : ℕ) (w : W) (a : Answer Cpu Ring) → (guarded n w a).number ≡ 0 → n ≡ 0
accepted zero w a e = refl
accepted (suc n) w a e = absurd (omega arith)

-- so the words that an accepted call rewrites hold them whole
pub places-whole : (c : Call Input) (w : W) → (answer_of c w).number ≡ 0 → PlacesWhole (answer_of c w).world.journal
places-whole c w e =
    let p = places c w (accepted (check_of w) w (plain_of c w) e) in
    record { next = omega (arith, p.next); held = omega (arith, p.held) }

-- ---- a refusal
abbrev Stays : W → Answer Cpu Ring → Type 0
Stays w a = (a.number ≡ 0 → ⊥) → a.world ≡ w

module _ (p : Stretch) where
  gave-stays : (w : W) (s : ℕ) (x : Next Cpu) → Stays w (gave machine (journal_of p) w s x)
  gave-stays w s (refuses n) h = refl
  gave-stays w s (gives e) h = absurd (h refl)

  backed-stays : (w : W) (x : Popped (Undo Cpu) Ring) → Stays w (backed machine (journal_of p) w x)
  backed-stays w (denies n) h = refl
  backed-stays w (hands u j) h = absurd (h refl)

  plain-stays : (c : Call Input) (w : W) → Stays w (plain machine (journal_of p) c w)
  plain-stays (give i) w h = gave-stays w (steps_of i) (next_of i w.box) h
  plain-stays (run n) w h = absurd (h (number-ran machine (journal_of p) n w))
  plain-stays back w h = backed-stays w ((journal_of p).pop w.journal) h

guarded-stays : (n : ℕ) (w : W) (a : Answer Cpu Ring) → Stays w a → Stays w (guarded n w a)
guarded-stays zero w a l h = l h
guarded-stays (suc n) w a l h = refl

-- a refused call leaves the state, memory, next slot, records held and the journal's words as they were
pub stays : (c : Call Input) (w : W) → ((answer_of c w).number ≡ 0 → ⊥) → (answer_of c w).world ≡ w
stays c w h = guarded-stays (check_of w) w (plain_of c w) (plain-stays (stretch_of w) c w) h
