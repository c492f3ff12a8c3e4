-- From the checks, and from what an input gives, to what a call answers.
use Prim.Native.Nat.{ℕ, zero, suc}
use mathlib.Core.Path.{◌≡◌, refl, sym, ◌∙◌, ap}
use mathlib.Core.Bool.{Bool, true, false}
use mathlib.Core.List.{List}
use lib.ListN.{length}
use Rattle.bus.specs.declared.state.Cpu.{Cpu}
use Rattle.cpu.specs.Step.{box}
use Rattle.history.specs.Trace.{Next, refuses, Answer, refusal, Call, give, gave, guarded}
use Rattle.history.specs.Ring.{Ring, slots}
use Rattle.calls.specs.Inputs.{Input, next_of, steps_of, machine}
use Rattle.calls.specs.Calls.{W, ram_fits, journal_fits, state_fits, first_of, check_of, stretch_of, journal_of, answer_of, plain_of, world_of, number_of, replied}
use Rattle.calls.specs.Code.{refuse}
use Rattle.calls.specs.declared.state.Machine.{Machine as MachineT}
use Rattle.calls.specs.declared.state.Refusal.{Refusal}
use Rattle.calls.specs.declared.state.Reply.{Reply}

abbrev pub gives-by : W → ℕ → Next Cpu → Answer Cpu Ring
gives-by w = gave machine (journal_of (stretch_of w)) w

-- a call on a machine with its memory and its journal
module _ (m : MachineT) (ram ws : List ℕ) where
  abbrev w : W
  w = world_of m ram ws

  -- no refusal has the number 0
  refusing : (c : Call Input) (why : Refusal) → guarded (number_of why) w (plain_of c w) ≡ refusal (number_of why) w
  refusing c Refusal.RamTooLong = refl
  refusing c Refusal.BadJournal = refl
  refusing c Refusal.BadState = refl
  refusing c Refusal.Halted = refl
  refusing c Refusal.NotReady = refl
  refusing c Refusal.NoRegister = refl
  refusing c Refusal.NotRam = refl
  refusing c Refusal.NoRecord = refl
  refusing c Refusal.BadRecord = refl

  -- the first check that fails, or none
  pub fails : (why : Refusal) → number_of why ≡ check_of w → (c : Call Input) (r : Reply) → r ≡ refuse m why → answer_of c w ≡ replied r ram ws
  fails why e c r s =
      ap (λ (x : ℕ). guarded x w (plain_of c w)) (sym e) ∙ refusing c why ∙ ap (λ (x : Reply). replied x ram ws) (sym s)

  pub passes : 0 ≡ check_of w → (c : Call Input) → answer_of c w ≡ plain_of c w
  passes e c = ap (λ (x : ℕ). guarded x w (plain_of c w)) (sym e)

  -- an input, by what the rules give
  pub given : (i : Input) (x : Next Cpu) → next_of i (box m.cpu ram) ≡ x → plain_of (give i) w ≡ gives-by w (steps_of i) x
  given i x q = ap (λ (y : Next Cpu). gives-by w (steps_of i) y) q

  -- its own refusal
  pub denied : (i : Input) (why : Refusal) (r : Reply) → next_of i (box m.cpu ram) ≡ refuses (number_of why) → r ≡ refuse m why
      → plain_of (give i) w ≡ replied r ram ws
  denied i why r q s = given i (refuses (number_of why)) q ∙ ap (λ (x : Reply). replied x ram ws) (sym s)
