-- Where checks 1 to 3 pass, they pass after every accepted input and after every run.
use Prim.Native.Nat.{ℕ, zero, suc, ◌-◌, ◌*◌, ◌/◌, ◌%◌, ◌≤◌, ◌<◌}
use mathlib.Core.Path.{◌≡◌, refl}
use mathlib.Core.Bool.{Bool, true, false, ◌&&◌, ◌||◌}
use mathlib.Core.List.{List}
use native.Mathlib.Omega.{arith}
use native.Mathlib.Decide.{dec_lt}
use borrow.Author.Tests.{le-leb, lt-ltb, le-ltb, eq-eqb}
use lib.Dec.{T, leb, ltb, eqb, ltb→lt, leb→le, eqb→eq}
use lib.ListN.{length}
use Rattle.bus.specs.State.{word}
use Rattle.bus.specs.declared.state.Cpu.{Cpu}
use Rattle.bus.specs.declared.state.Stretch.{Stretch}
use Rattle.history.specs.Trace.{Effect, Next, refuses, gives, Undo, undo_of, stepped, ran}
use Rattle.history.specs.Ring.{Ring, slots, pushed}
use Rattle.history.proofs.Exact.{Lawful}
use Rattle.history.proofs.Pushing.{push-in, push-out}
use Rattle.history.proofs.RingLaws.{length-here, after-in}
use Rattle.records.specs.Record.{record_with, record_of}
use Rattle.calls.specs.Inputs.{Input, step, next_of, machine}
use Rattle.calls.specs.Calls.{W, ram_fits, first_of, check_of, journal_of, went}
use Rattle.exact.specs.Demand3.{Fits}
use Rattle.exact.proofs.Lawful.{GoodBox, lawful}
use Rattle.pens_exact.specs.Cut.{Typed}

-- next slot and records held are within the slots
pub record Sound (j : Ring) : Type 0 where
  pub whole : length j.words % 32 ≡ 0
  pub size : length j.words ≤ 32768
  pub next : j.next ≤ slots j.words - 1
  pub held : j.held ≤ slots j.words

pub record Passing (w : W) : Type 0 where
  pub good : GoodBox w.box
  pub sound : Sound w.journal

-- ---- from the checks, and to them
passed : (a b l c h n : Bool) → first_of a (b && l) (c && (h && n)) ≡ 0 → T a × T b × T l × T c × T h × T n
passed true true true true true true e = (tt, tt, tt, tt, tt, tt)
passed true true true true true false e = absurd (omega arith)
passed true true true true false n e = absurd (omega arith)
passed true true true false h n e = absurd (omega arith)
passed true true false c h n e = absurd (omega arith)
passed true false l c h n e = absurd (omega arith)
passed false b l c h n e = absurd (omega arith)

below : (n next : ℕ) → T (ltb next n || (eqb n 0 && eqb next 0)) → next ≤ n - 1
below n next t = go (ltb next n) (eqb n 0) (eqb next 0) (ltb→lt next n) (eqb→eq next 0) t
  where
    go : (a b c : Bool) → (T a → next < n) → (T c → next ≡ 0) → T (a || (b && c)) → next ≤ n - 1
    go true b c l z t = omega (arith, l tt)
    go false true c l z t = omega (arith, z t)
    go false false c l z t = absurd t

pub checked : (w : W) → Typed w.box.cpu w.box.ram → check_of w ≡ 0 → Passing w
unfolding check_of
checked w y e =
    let j = w.journal in
    let k = length j.words in
    let n = k / 32 in
    let p =
    passed (ram_fits (length w.box.ram)) (eqb (k % 32) 0) (leb k 32768) (leb (word w.box.cpu.csrs 0) 511) (leb j.held n)
    (ltb j.next n || (eqb n 0 && eqb j.next 0)) e
    in
    record {
      good =
          record {
            cpu =
                record {
                  regs = y.regs;
                  csrs = record { long = y.long; words = y.words; csr0 = leb→le (word w.box.cpu.csrs 0) 511 p.3 };
                  board = y.board;
                };
            bytes = y.bytes;
            size = leb→le (length w.box.ram) 65504 p.0;
          };
      sound =
          record {
            whole = eqb→eq (k % 32) 0 p.1;
            size = leb→le k 32768 p.2;
            next = below n j.next p.5;
            held = leb→le j.held n p.4;
          };
    }

next_fits : (n next : ℕ) → next ≤ n - 1 → (ltb next n || (eqb n 0 && eqb next 0)) ≡ true
next_fits zero next h = rw (le-ltb next 0 (omega arith), eq-eqb next 0 (omega (arith, h)))
next_fits (suc n) next h = rw (lt-ltb next (suc n) (omega (arith, h)))

pub passes : (w : W) → Passing w → check_of w ≡ 0
unfolding check_of
passes w p =
    let j = w.journal in
    let g = p.good in
    let s = p.sound in
    rw (
      le-leb (length w.box.ram) 65504 g.size,
      eq-eqb (length j.words % 32) 0 s.whole,
      le-leb (length j.words) 32768 s.size,
      le-leb (word w.box.cpu.csrs 0) 511 g.cpu.csrs.csr0,
      le-leb j.held (length j.words / 32) s.held,
      next_fits (length j.words / 32) j.next s.next,
    )

-- ---- one record more
long : (u : Undo Cpu) → length (record_of u) ≡ 32
unfolding record_with
long u = refl

push-sound : (r : List ℕ) (j : Ring) → length r ≡ 32 → Sound j → Sound (pushed (slots j.words) r j)
push-sound r j l s = go (dec_lt j.next n)
  where
    n : ℕ
    n = slots j.words

    go : Dec (j.next < n) → Sound (pushed n r j)
    go (yes h) =
        let e = length-here j.words (j.next * 32) r (omega (arith, h)) l in
        rw (push-in n r j h)
        (record {
          whole = omega (arith, e, s.whole);
          size = omega (arith, e, s.size);
          next = omega (arith, e, after-in n j.next h);
          held = omega (arith, e);
        })
    go (no h) = rw (push-out n r j (omega arith)) s

-- ---- an accepted input, and a run
lawful-next : (i : Input) (w : W) (x : Next Cpu) → next_of i w.box ≡ x → Fits i → Passing w → Lawful GoodBox w.box x
lawful-next i w x q f p = rw q at (lawful i w.box f p.good)

pub taken : (i : Input) (w : W) (e : Effect Cpu) → next_of i w.box ≡ gives e → Fits i → Passing w → Passing (went w e)
taken i w e q f p =
    record {
      good = (lawful-next i w (gives e) q f p).0;
      sound = push-sound (record_of (undo_of w.box e.count e.first)) w.journal (long (undo_of w.box e.count e.first)) p.sound;
    }

-- by the journal of any protected addresses
module _ (p : Stretch) where
  stepped-on : (n : ℕ) → ((w : W) → Passing w → Passing (ran machine (journal_of p) n w).world) → (w : W) (x : Next Cpu) → next_of step w.box ≡ x → Passing w
      → Passing (stepped machine (journal_of p) (ran machine (journal_of p) n) w x).world
  stepped-on n ih w (refuses k) q h = h
  stepped-on n ih w (gives e) q h = ih (went w e) (taken step w e q tt h)

  pub runs_on : (n : ℕ) (w : W) → Passing w → Passing (ran machine (journal_of p) n w).world
  runs_on zero w h = h
  runs_on (suc n) w h = stepped-on n (runs_on n) w (next_of step w.box) refl h
