-- Q-4: "an interval of addresses that the processor can't write", "fixed at start". `proofs/Fixed.antt` proves it of every call, `proofs/Seen.antt` of lists.
use Rattle.std.specs.Prelude.{◌≡◌, List, [], ◌∷◌, ℕ}
use Rattle.bus.specs.Protected.{Sparing}
use Rattle.history.specs.Trace.{Call, give, run, back}
use Rattle.calls.specs.Inputs.{Input, step, tick, receive, sent, set_register, poke, resets}
use Rattle.calls.specs.Calls.{W, stretch_of, answer_of, world_of}
use Rattle.calls.specs.declared.state.Machine.{Machine}
use Rattle.entries.specs.declared.Entry.{Entry}
use Rattle.watched.specs.Answer.{watched_of}
use Rattle.exact.specs.Demand3.{Made, made, watching, Chain, last}

-- "Poke, step-back .. still write there": every other call is bound
abbrev pub BoundInput : Input → Type 0
BoundInput step = Unit {0}
BoundInput tick = Unit {0}
BoundInput (receive x) = Unit {0}
BoundInput sent = Unit {0}
BoundInput (set_register i x) = Unit {0}
BoundInput (poke a x) = ⊥
BoundInput resets = Unit {0}

abbrev pub Bound : Call Input → Type 0
Bound (give i) = BoundInput i
Bound (run n) = Unit {0}
Bound back = ⊥

-- from w to v the protected addresses are the same, RAM is as long, and each protected RAM byte is as it was
abbrev pub Unwritten : W → W → Type 0
Unwritten w v = Sparing (stretch_of w) w.box.ram (stretch_of v) v.box.ram

pub record Protected : Type 0 where
  -- "fixed at start": no call changes them, reset and step-back too
  pub fixed : (c : Call Input) (w : W) → stretch_of (answer_of c w).world ≡ stretch_of w
  -- whatever the program does
  pub spared : (c : Call Input) (w : W) → Bound c → Unwritten w (answer_of c w).world
  pub watched : (n : ℕ) (l : List Entry) (w : W) → Unwritten w (watched_of n l w).world

-- lists of "our calls", each on what the one before it left; a watched run is bound
abbrev pub AllBound : List Made → Type 0
AllBound [] = Unit {0}
AllBound (made c r ram ws ∷ xs) = Bound c × AllBound xs
AllBound (watching n l r ram ws l' ∷ xs) = AllBound xs

abbrev pub ProtectedOver : Machine → List ℕ → List ℕ → List Made → Type 0
ProtectedOver m ram ws xs = Chain m ram ws xs → AllBound xs → Unwritten (world_of m ram ws) (last m ram ws xs)
