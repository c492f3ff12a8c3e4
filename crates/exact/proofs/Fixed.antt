-- Q-4: no call changes the protected addresses, and none but a poke and a step-back changes a RAM byte at one of them.
use Prim.Native.Nat.{ℕ, zero, suc}
use mathlib.Core.Path.{◌≡◌, refl, subst}
use mathlib.Core.Bool.{Bool, true, false, cond}
use mathlib.Core.List.{List}
use mathlib.Core.Option.{some, none}
use lib.Dec.{ltb}
use lib.ListN.{length}
use Rattle.bus.specs.State.{reset}
use Rattle.bus.specs.Protected.{Spares}
use Rattle.bus.specs.declared.state.Cpu.{Cpu}
use Rattle.bus.specs.declared.state.Stretch.{Stretch}
use Rattle.bus.proofs.Kept.{picked}
use Rattle.bus.proofs.Spared.{sparing-same, sparing-on}
use Rattle.cpu.proofs.Touched.{step-spares}
use Rattle.history.specs.Trace.{Box, Next, refuses, gives, Popped, denies, hands, Undo, Answer, Call, give, run, back, guarded, gave, backed, stepped, ran, plain}
use Rattle.history.specs.Ring.{Ring, slots, slot_before, slot_words, popped, popped_at}
use Rattle.records.specs.Record.{undo_from, sound, decoded}
use Rattle.calls.specs.Inputs.{Input, step, tick, receive, sent, set_register, poke, resets, signalled, register_set, next_of, machine}
use Rattle.calls.specs.Calls.{W, check_of, stretch_of, journal_of, went, answer_of}
use Rattle.entries.specs.declared.Entry.{Entry}
use Rattle.watching.specs.Watched.{goes}
use Rattle.watching.proofs.Beside.{goes-runs}
use Rattle.watched.specs.Answer.{told, list_check, or_else, unless_refused, watched_of}
use Rattle.exact.specs.Protected.{BoundInput, Bound, Unwritten, Protected}

-- ---- one input
-- what an input keeps: the protected addresses, and unless it is a poke the RAM bytes at them
unfoldable pub Fixes : Box Cpu → Next Cpu → Type 0
Fixes b (refuses n) = Unit {0}
Fixes b (gives e) = e.box.cpu.board.stretch ≡ b.cpu.board.stretch

SparesIn : Box Cpu → Next Cpu → Type 0
SparesIn b (refuses n) = Unit {0}
SparesIn b (gives e) = Spares b.cpu.board.stretch b.ram e.box.ram

pub next-fixed : (i : Input) (b : Box Cpu) → Fixes b (next_of i b)
unfolding next_of Fixes signalled register_set reset
next-fixed step b = picked (Fixes b) b.cpu.board.halted tt (step-spares b.cpu b.ram).stretch
next-fixed tick b = refl
next-fixed (receive x) b = picked (Fixes b) b.cpu.board.devices.r tt refl
next-fixed sent b = picked (Fixes b) b.cpu.board.devices.t tt refl
next-fixed (set_register i x) b = picked (Fixes b) (ltb i 16) refl tt
next-fixed (poke a x) b = picked (Fixes b) (ltb a (length b.ram)) refl tt
next-fixed resets b = refl

next-spares : (i : Input) (b : Box Cpu) → BoundInput i → SparesIn b (next_of i b)
unfolding next_of SparesIn
next-spares step b h = picked (SparesIn b) b.cpu.board.halted tt (step-spares b.cpu b.ram).ram
next-spares tick b h = (sparing-same b.cpu.board.stretch b.ram).ram
next-spares (receive x) b h = picked (SparesIn b) b.cpu.board.devices.r tt (sparing-same b.cpu.board.stretch b.ram).ram
next-spares sent b h = picked (SparesIn b) b.cpu.board.devices.t tt (sparing-same b.cpu.board.stretch b.ram).ram
next-spares (set_register i x) b h = picked (SparesIn b) (ltb i 16) (sparing-same b.cpu.board.stretch b.ram).ram tt
next-spares (poke a x) b h = absurd h
next-spares resets b h = (sparing-same b.cpu.board.stretch b.ram).ram

-- ---- one call, by the journal of any protected addresses
unwritten-same : (w : W) → Unwritten w w
unwritten-same w = sparing-same (stretch_of w) w.box.ram

module _ (p : Stretch) where
  gave-fixed : (w : W) (s : ℕ) (x : Next Cpu) → Fixes w.box x → stretch_of (gave machine (journal_of p) w s x).world ≡ stretch_of w
  unfolding Fixes
  gave-fixed w s (refuses n) h = refl
  gave-fixed w s (gives e) h = h

  gave-spares : (w : W) (s : ℕ) (x : Next Cpu) → Fixes w.box x → SparesIn w.box x → Unwritten w (gave machine (journal_of p) w s x).world
  unfolding Fixes SparesIn
  gave-spares w s (refuses n) h k = unwritten-same w
  gave-spares w s (gives e) h k = record { stretch = h; ram = k }

  stepped-spares : (k : W → Answer Cpu Ring) (w : W) (x : Next Cpu) → ((v : W) → Unwritten v (k v).world) → Fixes w.box x → SparesIn w.box x
      → Unwritten w (stepped machine (journal_of p) k w x).world
  stepped-spares k w (refuses n) f h g = unwritten-same w
  stepped-spares k w (gives e) f h g = sparing-on (gave-spares w 0 (gives e) h g) (f (went w e))

  -- "the processor can't write": no run does, whatever the program
  pub ran-spares : (n : ℕ) (w : W) → Unwritten w (ran machine (journal_of p) n w).world
  ran-spares zero w = unwritten-same w
  ran-spares (suc n) w =
      stepped-spares (ran machine (journal_of p) n) w (next_of step w.box) (ran-spares n) (next-fixed step w.box) (next-spares step w.box tt)

-- ---- a step-back
Backs : Stretch → Popped (Undo Cpu) Ring → Type 0
Backs p (denies n) = Unit {0}
Backs p (hands u j) = u.cpu.board.stretch ≡ p

pop-fixed : (p : Stretch) (k h : ℕ) (j : Ring) → Backs p (popped_at (decoded p) k h j)
unfolding Backs decoded undo_from
pop-fixed p k zero j = tt
pop-fixed p k (suc n) j = go (sound (slot_words j.words k))
  where
    go : (t : Bool) → Backs p (popped k (cond t (some (undo_from p (slot_words j.words k))) none) j)
    go true = refl
    go false = tt

backed-fixed : (w : W) (x : Popped (Undo Cpu) Ring) → Backs (stretch_of w) x → stretch_of (backed machine (journal_of (stretch_of w)) w x).world ≡ stretch_of w
unfolding Backs
backed-fixed w (denies n) h = refl
backed-fixed w (hands u j) h = h

-- ---- every call
guarded-fixed : (n : ℕ) (w : W) (a : Answer Cpu Ring) → stretch_of a.world ≡ stretch_of w → stretch_of (guarded n w a).world ≡ stretch_of w
guarded-fixed zero w a h = h
guarded-fixed (suc n) w a h = refl

guarded-spares : (n : ℕ) (w : W) (a : Answer Cpu Ring) → Unwritten w a.world → Unwritten w (guarded n w a).world
guarded-spares zero w a h = h
guarded-spares (suc n) w a h = unwritten-same w

plain-fixed : (c : Call Input) (w : W) → stretch_of (plain machine (journal_of (stretch_of w)) c w).world ≡ stretch_of w
plain-fixed (give i) w = gave-fixed (stretch_of w) w _ (next_of i w.box) (next-fixed i w.box)
plain-fixed (run n) w = (ran-spares (stretch_of w) n w).stretch
plain-fixed back w =
    let j = w.journal in
    backed-fixed w _ (pop-fixed (stretch_of w) (slot_before (slots j.words) j.next) j.held j)

plain-spares : (c : Call Input) (w : W) → Bound c → Unwritten w (plain machine (journal_of (stretch_of w)) c w).world
plain-spares (give i) w h = gave-spares (stretch_of w) w _ (next_of i w.box) (next-fixed i w.box) (next-spares i w.box h)
plain-spares (run n) w h = ran-spares (stretch_of w) n w
plain-spares back w h = absurd h

-- no call changes the protected addresses
pub fixed : (c : Call Input) (w : W) → stretch_of (answer_of c w).world ≡ stretch_of w
fixed c w = guarded-fixed (check_of w) w _ (plain-fixed c w)

-- none but a poke and a step-back changes a protected RAM byte
pub spared : (c : Call Input) (w : W) → Bound c → Unwritten w (answer_of c w).world
spared c w h = guarded-spares (check_of w) w _ (plain-spares c w h)

-- nor does a watched run
pub watched-spared : (n : ℕ) (l : List Entry) (w : W) → Unwritten w (watched_of n l w).world
unfolding watched_of
watched-spared n l w = go (or_else (check_of w) (list_check l))
  where
    go : (c : ℕ) → Unwritten w (unless_refused c w l (told (goes n true l w) l)).world
    go zero =
        let s = goes n true l w in
        subst (Unwritten w) (goes-runs (stretch_of w) n true l w).world (ran-spares (stretch_of w) s.steps w)
    go (suc c) = unwritten-same w

pub protected : Protected
protected = record { fixed = fixed; spared = spared; watched = watched-spared }
