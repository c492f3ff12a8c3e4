-- Every input that fits its types is lawful in a good state: the next state is good again, and memory changes only in the bytes told.
use Prim.Native.Nat.{ℕ, zero, suc, ◌+◌, ◌-◌, ◌/◌, ◌%◌, min, ◌≤◌, ◌<◌, ◌^◌}
use mathlib.Core.Path.{◌≡◌, refl, ◌∙◌, ap}
use mathlib.Core.Bool.{Bool, true, false, ◌||◌, ◌&&◌}
use mathlib.Core.List.{List, ◌∷◌}
use native.Mathlib.Omega.{arith}
use borrow.Author.Tests.{le-leb, lt-ltb, eq-eqb}
use lib.Dec.{ltb, eqb}
use lib.ListN.{length, length-set, take, length-take}
use Rattle.word.specs.Word.{join_at, low_at}
use Rattle.word.proofs.Width.{low_below, plus-below}
use Rattle.word.proofs.Digits.{below}
use Rattle.names.specs.Names.{F}
use Rattle.bus.specs.State.{word}
use Rattle.bus.specs.Good.{Within, GoodDevices, Good, Changed, none, one, two}
use Rattle.bus.specs.declared.state.Cpu.{Cpu}
use Rattle.bus.specs.declared.state.Stretch.{Stretch}
use Rattle.bus.specs.declared.state.Devices.{Devices}
use Rattle.bus.proofs.Kept.{picked, within-set, reg-set, csr0-set, reset-good}
use Rattle.bus.proofs.Touched.{kept-length}
use Rattle.cpu.proofs.Kept.{step-good}
use Rattle.cpu.proofs.Touched.{step-changes}
use Rattle.history.specs.Undo.{Touched}
use Rattle.history.specs.Trace.{Box, Next, refuses, gives, Undo, undo_of}
use Rattle.history.proofs.PutBack.{touched_none, touched-one, touched-two}
use Rattle.history.proofs.Exact.{Lawful, Ruly, Keeping}
use Rattle.history.proofs.RingLaws.{keeping}
use Rattle.records.specs.Record.{record_of, decoded}
use Rattle.calls.specs.Inputs.{Input, step, tick, receive, sent, set_register, poke, resets, signalled, register_set, next_of, machine}
use Rattle.calls.specs.Calls.{W, check_of, journal_of}
use Rattle.exact.specs.Demand3.{Fits}
use Rattle.exact.proofs.Records.{Roomy, FineUndo, wide, reads}
use Rattle.exact.proofs.Fixed.{Fixes, next-fixed}

pub record GoodBox (b : Box Cpu) : Type 0 where
  pub cpu : Good b.cpu
  pub bytes : Within 8 b.ram
  pub size : length b.ram ≤ 65504

touches : {m : List ℕ} {a n : ℕ} {m' : List ℕ} → Changed m a n m' → Touched n a m m'
touches {m} none = touched_none 0 m
touches {m} (one a x) = touched-one a x m
touches {m} (two a x y) = touched-two a x y m

signalled-good : (bits : ℕ) {v : Devices} {c : Cpu} → GoodDevices v → Good c → Good (signalled bits v c)
unfolding signalled
signalled-good bits {v} {c} g r =
    let l : join_at 8 (low_at 8 (word c.csrs 0)) 1 ≤ 511 = omega (arith, low_below 8 (word c.csrs 0)) in
    record { regs = reg-set F r.regs (below 16 _); csrs = csr0-set r.csrs l; board = record { devices = g } }

set-good : (i x : ℕ) {c : Cpu} → x < 2 ^ 16 → Good c → Good (register_set i x c)
unfolding register_set
set-good i x h r = record { regs = reg-set i r.regs h; csrs = r.csrs; board = record { devices = r.board.devices } }

module _ (b : Box Cpu) (g : GoodBox b) where
  L : Next Cpu → Type 0
  L = Lawful GoodBox b

  quiet : {c : Cpu} → Good c → Lawful GoodBox b (gives (record { box = record { cpu = c; ram = b.ram }; count = 0; first = 0; bus = 0 }))
  quiet r = (record { cpu = r; bytes = g.bytes; size = g.size }, touched_none 0 b.ram)

  steps : Lawful GoodBox b (next_of step b)
  unfolding next_of
  steps =
      let s = step-good g.cpu g.bytes in
      let t = step-changes b.cpu b.ram in
      picked (Lawful GoodBox b) b.cpu.board.halted (omega arith)
      (record { cpu = s.cpu; bytes = s.ram; size = omega (arith, kept-length t, g.size) }, touches t)

  ticks : Lawful GoodBox b (next_of tick b)
  unfolding next_of
  ticks =
      let d = g.cpu.board.devices in
      quiet (signalled-good 0x0400 (record { clock = plus-below 16 b.cpu.board.devices.clock 1; rxd = d.rxd; txd = d.txd }) g.cpu)

  receives : (x : ℕ) → x < 2 ^ 8 → Lawful GoodBox b (next_of (receive x) b)
  unfolding next_of
  receives x h =
      let d = g.cpu.board.devices in
      picked (Lawful GoodBox b) b.cpu.board.devices.r (omega arith) (quiet (signalled-good 0x0800 (record { clock = d.clock; rxd = h; txd = d.txd }) g.cpu))

  sends : Lawful GoodBox b (next_of sent b)
  unfolding next_of
  sends =
      let d = g.cpu.board.devices in
      picked (Lawful GoodBox b) b.cpu.board.devices.t (omega arith)
      (quiet (signalled-good 0x0800 (record { clock = d.clock; rxd = d.rxd; txd = d.txd }) g.cpu))

  sets : (i x : ℕ) → x < 2 ^ 16 → Lawful GoodBox b (next_of (set_register i x) b)
  unfolding next_of
  sets i x h = picked (Lawful GoodBox b) (ltb i 16) (quiet (set-good i x h g.cpu)) (omega arith)

  pokes : (a x : ℕ) → x < 2 ^ 8 → Lawful GoodBox b (next_of (poke a x) b)
  unfolding next_of
  pokes a x h =
      picked (Lawful GoodBox b) (ltb a (length b.ram))
      (record { cpu = g.cpu; bytes = within-set 8 a g.bytes h; size = omega (arith, length-set b.ram a x, g.size) }, touched-one a x b.ram)
      (omega arith)

  starts : Lawful GoodBox b (next_of resets b)
  unfolding next_of
  starts = quiet (reset-good b.cpu.board.stretch)

pub lawful : (i : Input) (b : Box Cpu) → Fits i → GoodBox b → Lawful GoodBox b (next_of i b)
lawful step b f g = steps b g
lawful tick b f g = ticks b g
lawful (receive x) b f g = receives b g x f
lawful sent b f g = sends b g
lawful (set_register i x) b f g = sets b g i x f
lawful (poke a x) b f g = pokes b g a x f
lawful resets b f g = starts b g

pub roomy : {c : Cpu} → Good c → Roomy c
roomy r = record { regs16 = r.regs.long; csrs6 = r.csrs.long; rxd = r.board.devices.rxd }

-- a good machine with the protected addresses p
pub record GoodAt (p : Stretch) (b : Box Cpu) : Type 0 where
  pub good : GoodBox b
  pub stretch : b.cpu.board.stretch ≡ p

lawful-next : (p : Stretch) (b : Box Cpu) (x : Next Cpu) → b.cpu.board.stretch ≡ p → Fixes b x → Lawful GoodBox b x → Lawful (GoodAt p) b x
unfolding Fixes
lawful-next p b (refuses n) e f l = l
lawful-next p b (gives y) e f l = (record { good = l.0; stretch = f ∙ e }, l.1)

pub lawful-at : (p : Stretch) (i : Input) (b : Box Cpu) → Fits i → GoodAt p b → Lawful (GoodAt p) b (next_of i b)
lawful-at p i b f g = lawful-next p b (next_of i b) g.stretch (next-fixed i b) (lawful i b f g.good)

pub fines : (p : Stretch) (b : Box Cpu) (n a : ℕ) → GoodAt p b → FineUndo p (undo_of b n a)
fines p b n a g = go n
  where
    h : GoodBox b
    h = g.good

    go : (n : ℕ) → FineUndo p (undo_of b n a)
    go zero = record { stretch = g.stretch; cpu = roomy h.cpu; csr0 = h.cpu.csrs.csr0; count = omega arith; low = omega arith }
    go (suc zero) = record { stretch = g.stretch; cpu = roomy h.cpu; csr0 = h.cpu.csrs.csr0; count = omega arith; low = h.bytes.at a }
    go (suc (suc n)) = record { stretch = g.stretch; cpu = roomy h.cpu; csr0 = h.cpu.csrs.csr0; count = omega arith; low = h.bytes.at a }

abbrev pub ruly : (p : Stretch) → Ruly machine (FineUndo p)
ruly p = record { Good = GoodAt p; Fits = Fits; stepping = tt; lawful = lawful-at p; fines = fines p }

-- the journal's laws, for n slots
abbrev pub Slots : (p : Stretch) → ℕ → Keeping (journal_of p) (FineUndo p)
Slots p n = keeping record_of (decoded p) (FineUndo p) (wide p) (reads p) n

next_fits : (n next : ℕ) → next ≤ n - 1 → (ltb next n || (eqb n 0 && eqb next 0)) ≡ true
next_fits zero next h = rw (eq-eqb next 0 (omega arith)) (right-true (ltb next 0))
  where
    right-true : (b : Bool) → (b || true) ≡ true
    right-true true = refl
    right-true false = refl
next_fits (suc n) next h = rw (lt-ltb next (suc n) (omega arith))

-- where the state is good and the journal holds records, the first checks pass
pub passes : (p : Stretch) (n : ℕ) → n ≤ 1024 → (w : W) (us : List (Undo Cpu)) → GoodBox w.box → (Slots p n).Holds w.journal us → check_of w ≡ 0
unfolding check_of
passes p n top w us g h =
    let j = w.journal in
    let e : length j.words / 32 ≡ n = omega (arith, h.sized) in
    rw (
      le-leb (length w.box.ram) 65504 g.size,
      eq-eqb (length j.words % 32) 0 (omega (arith, h.sized)),
      le-leb (length j.words) 32768 (omega (arith, h.sized)),
      le-leb (word w.box.cpu.csrs 0) 511 g.cpu.csrs.csr0,
      e,
      le-leb j.held n (omega (arith, h.count, h.room)),
      next_fits n j.next h.inside,
    )

pub grows : (n : ℕ) (u : Undo Cpu) (us : List (Undo Cpu)) → length (take n (u ∷ us)) ≡ min n (length us + 1)
grows n u us = length-take n (u ∷ us) ∙ ap (min n) (omega arith)
