-- What the rules give for each input, and the record of a step.
use Prim.Native.Nat.{ℕ, ◌≤◌, ◌<◌}
use mathlib.Core.Path.{◌≡◌, refl, sym, ◌∙◌, ap}
use mathlib.Core.Bool.{Bool, true, false, cond}
use mathlib.Core.List.{List}
use borrow.Author.Tests.{lt-ltb, le-ltb}
use lib.ListN.{length, set}
use Rattle.bus.specs.State.{reset}
use Rattle.word.specs.Memory.{old_bytes}
use Rattle.cpu.specs.Step.{box, effect, step_of}
use Rattle.bus.specs.Good.{Changed, none, one, two}
use Rattle.bus.specs.declared.state.Cpu.{Cpu}
use Rattle.history.specs.Trace.{Box, refuses, gives, undo_of}
use Rattle.records.specs.Record.{record_with, record_of}
use Rattle.calls.specs.Inputs.{step, tick, receive, sent, set_register, poke, resets, quietly, ticked, received, sent_off, register_set, next_of}

-- an accepted input, c being the state that the code leaves
module _ (b : Box Cpu) (c : Cpu) where
  pub ticks : c ≡ ticked b.cpu → next_of tick b ≡ quietly c b.ram
  unfolding next_of
  ticks e = rw e

  pub receives : (x : ℕ) → b.cpu.board.devices.r ≡ false → c ≡ received x b.cpu → next_of (receive x) b ≡ quietly c b.ram
  unfolding next_of
  receives x h e = ap (λ (t : Bool). cond t (refuses 5) (quietly (received x b.cpu) b.ram)) h ∙ ap (λ (y : Cpu). quietly y b.ram) (sym e)

  pub sends : b.cpu.board.devices.t ≡ false → c ≡ sent_off b.cpu → next_of sent b ≡ quietly c b.ram
  unfolding next_of
  sends h e = ap (λ (t : Bool). cond t (refuses 5) (quietly (sent_off b.cpu) b.ram)) h ∙ ap (λ (y : Cpu). quietly y b.ram) (sym e)

  pub sets : (i x : ℕ) → i < 16 → c ≡ register_set i x b.cpu → next_of (set_register i x) b ≡ quietly c b.ram
  unfolding next_of
  sets i x h e = rw (lt-ltb i 16 h, e)

  pub starts : c ≡ reset b.cpu.board.stretch → next_of resets b ≡ quietly c b.ram
  unfolding next_of
  starts e = rw e

-- a poke, a step, and each input's own refusal
module _ (b : Box Cpu) where
  pub pokes : (a x : ℕ) → a < length b.ram → next_of (poke a x) b ≡ gives (effect b.cpu (set b.ram a x) 1 a 0)
  unfolding next_of
  pokes a x h = rw (lt-ltb a (length b.ram) h)

  pub receives-not : (x : ℕ) → b.cpu.board.devices.r ≡ true → next_of (receive x) b ≡ refuses 5
  unfolding next_of
  receives-not x h = rw h

  pub sends-not : b.cpu.board.devices.t ≡ true → next_of sent b ≡ refuses 5
  unfolding next_of
  sends-not h = rw h

  pub sets-not : (i x : ℕ) → 16 ≤ i → next_of (set_register i x) b ≡ refuses 6
  unfolding next_of
  sets-not i x h = rw (le-ltb i 16 h)

  pub pokes-not : (a x : ℕ) → length b.ram ≤ a → next_of (poke a x) b ≡ refuses 7
  unfolding next_of
  pokes-not a x h = rw (le-ltb a (length b.ram) h)

  pub step-goes : b.cpu.board.halted ≡ false → next_of step b ≡ gives (step_of b.cpu b.ram)
  unfolding next_of
  step-goes h = rw h

  pub step-stops : b.cpu.board.halted ≡ true → next_of step b ≡ refuses 4
  unfolding next_of
  step-stops h = rw h

-- the record of a step, from what the step tells
pub recorded : (c : Cpu) (m : List ℕ) {a n : ℕ} {m' : List ℕ} → Changed m a n m' → record_with c n a (old_bytes m n a) ≡ record_of (undo_of (box c m) n a)
unfolding old_bytes
recorded c m none = refl
recorded c m (one a x) = refl
recorded c m (two a x y) = refl
