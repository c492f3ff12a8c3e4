-- The machine's calls over a journal, for any rules and any journal, and demand 3 in words. Definitions alone; `Exact` proves it.
use Rattle.std.specs.Prelude.{ℕ, zero, suc, ◌+◌, ◌-◌, min, ◌≡◌, List, [], ◌∷◌}
use Rattle.std.proofs.Math.Option.{Option, some, none}
use Rattle.word.specs.Memory.{old_first, old_second}
use Rattle.history.specs.Undo.{restored}

-- a machine with its memory
pub record Box (C : Type 0) : Type 0 where
  pub cpu : C
  pub ram : List ℕ

-- what an accepted input gives: the next state, how many bytes it wrote through memory (0 to 2), the first address, the bus bytes
pub record Effect (C : Type 0) : Type 0 where
  pub box : Box C
  pub count : ℕ
  pub first : ℕ
  pub bus : ℕ

-- the rules' answer: a refusal's number, or an effect
pub data Next (C : Type 0) : Type 0 where
  refuses : ℕ → Next C
  gives : Effect C → Next C

-- demand 2's rules: the inputs, which of them is the step, how many steps an input counts as, and what each gives
pub record Machine : Type 1 where
  pub C : Type 0
  pub I : Type 0
  pub step : I
  pub steps : I → ℕ
  pub rule : I → Box C → Next C

-- what a record says: the state before, the bytes written, the first address, the two old bytes
pub record Undo (C : Type 0) : Type 0 where
  pub cpu : C
  pub count : ℕ
  pub first : ℕ
  pub low : ℕ
  pub high : ℕ

-- the record of an input that wrote n bytes from a on: the state before, and the bytes that they wrote over
abbrev pub undo_with : {C : Type 0} → Box C → ℕ → ℕ → Undo C
undo_with b n a = record { cpu = b.cpu; count = n; first = a; low = old_first b.ram n a; high = old_second b.ram n a }

-- "25 bytes written by the input .. (0, 1, 2 ..)"; "26 and 27 are 0 if 25 is 0"
abbrev pub undo_of : {C : Type 0} → Box C → ℕ → ℕ → Undo C
undo_of b zero a = undo_with b 0 0
undo_of b (suc zero) a = undo_with b 1 a
undo_of b (suc (suc n)) a = undo_with b 2 a

-- the state that a record brings back
abbrev pub undo : {C : Type 0} → Undo C → List ℕ → Box C
undo u m = record { cpu = u.cpu; ram = restored u.count u.first u.low u.high m }

-- what a journal hands back: a refusal's number, or its newest record and what is left
pub data Popped (U J : Type 0) : Type 0 where
  denies : ℕ → Popped U J
  hands : U → J → Popped U J

-- a journal of records U
pub record Store (U : Type 0) : Type 1 where
  pub J : Type 0
  pub held : J → ℕ
  pub push : U → J → J
  pub pop : J → Popped U J

-- a call on the machine
pub data Call (I : Type 0) : Type 0 where
  give : I → Call I
  run : ℕ → Call I
  back : Call I

pub record World (C J : Type 0) : Type 0 where
  pub box : Box C
  pub journal : J

-- why a run stopped; a call that is no run stops for none of the two
pub data Cause : Type 0 where
  no_run : Cause
  budget : Cause
  stopped : Cause

-- a call's answer: its number (0: accepted), the steps done, the sum of their bus bytes, a run's cause, and all that is there afterwards
pub record Answer (C J : Type 0) : Type 0 where
  pub number : ℕ
  pub steps : ℕ
  pub bus : ℕ
  pub cause : Cause
  pub world : World C J

abbrev pub answers : {C J : Type 0} → ℕ → ℕ → ℕ → Cause → World C J → Answer C J
answers n s b c w = record { number = n; steps = s; bus = b; cause = c; world = w }

-- "Every refusal returns its number and the state as given, counts .. 0, and changes no lent byte or word."
abbrev pub refusal : {C J : Type 0} → ℕ → World C J → Answer C J
refusal n w = answers n 0 0 no_run w

-- what is left of a list of calls, in demand 3's words: the inputs not taken back, newest first, and the number of records held
pub record Left (I : Type 0) : Type 0 where
  pub inputs : List I
  pub held : ℕ

-- how the number held grows by an accepted input: by one, up to the slots; another journal's rule may also look at the inputs not taken back
abbrev pub up_to : {I : Type 0} → ℕ → List I → ℕ → ℕ
up_to slots is n = min slots (n + 1)

abbrev pub took : {I : Type 0} → (List I → ℕ → ℕ) → I → Left I → Left I
took grow i l = record { inputs = i ∷ l.inputs; held = grow (i ∷ l.inputs) l.held }

abbrev pub took_times : {I : Type 0} → (List I → ℕ → ℕ) → ℕ → I → Left I → Left I
took_times grow zero i l = l
took_times grow (suc n) i l = took_times grow n i (took grow i l)

abbrev pub rest : {A : Type 0} → List A → List A
rest [] = []
rest (x ∷ xs) = xs

-- what is left after a call, by its answer's number and steps: a refused call leaves what was left, a run counts as its steps
abbrev pub leaves : {I : Type 0} → (List I → ℕ → ℕ) → I → Call I → ℕ → ℕ → Left I → Left I
leaves grow step (give i) zero n l = took grow i l
leaves grow step (give i) (suc r) n l = l
leaves grow step (run k) zero n l = took_times grow n step l
leaves grow step (run k) (suc r) n l = l
leaves grow step back zero n l = record { inputs = rest l.inputs; held = l.held - 1 }
leaves grow step back (suc r) n l = l

-- what the rules give for inputs, newest first, from a start
abbrev pub box_of : {C : Type 0} → Next C → Option (Box C)
box_of (refuses n) = none
box_of (gives e) = some e.box

abbrev pub onward : (M : Machine) → M.I → Option (Box M.C) → Option (Box M.C)
onward M i none = none
onward M i (some b) = box_of (M.rule i b)

abbrev pub ruled : (M : Machine) → Box M.C → List M.I → Option (Box M.C)
ruled M s [] = some s
ruled M s (i ∷ is) = onward M i (ruled M s is)

-- the records of those inputs, newest first
abbrev pub record_next : {C : Type 0} → Box C → Next C → List (Undo C) → List (Undo C)
record_next b (refuses n) us = us
record_next b (gives e) us = undo_of b e.count e.first ∷ us

abbrev pub record_more : (M : Machine) → M.I → Option (Box M.C) → List (Undo M.C) → List (Undo M.C)
record_more M i none us = us
record_more M i (some b) us = record_next b (M.rule i b) us

abbrev pub trail : (M : Machine) → Box M.C → List M.I → List (Undo M.C)
trail M s [] = []
trail M s (i ∷ is) = record_more M i (ruled M s is) (trail M s is)

-- a step-back is refused, with 8, exactly when no record is held
abbrev pub back_number : ℕ → ℕ
back_number zero = 8
back_number (suc n) = 0

abbrev pub guarded : {C J : Type 0} → ℕ → World C J → Answer C J → Answer C J
guarded zero w a = a
guarded (suc n) w a = refusal (suc n) w

module _ (M : Machine) (K : Store (Undo M.C)) where
  abbrev pub W : Type 0
  W = World M.C K.J

  abbrev pub A : Type 0
  A = Answer M.C K.J

  -- an accepted input: the next state, and one record more
  abbrev pub after : W → Effect M.C → W
  after w e = record { box = e.box; journal = K.push (undo_of w.box e.count e.first) w.journal }

  abbrev pub gave : W → ℕ → Next M.C → A
  gave w s (refuses n) = refusal n w
  gave w s (gives e) = answers 0 s e.bus no_run (after w e)

  -- a step-back
  abbrev pub backed : W → Popped (Undo M.C) K.J → A
  backed w (denies n) = refusal n w
  backed w (hands u j) = answers 0 0 0 no_run (record { box = undo u w.box.ram; journal = j })

  -- "A run stops at the first of two": the budget is used up, or a step is refused; "where both hold, halted"
  abbrev pub cause_of : Next M.C → Cause
  cause_of (refuses n) = stopped
  cause_of (gives e) = budget

  abbrev pub stepped : (W → A) → W → Next M.C → A
  stepped k w (refuses n) = answers 0 0 0 stopped w
  stepped k w (gives e) =
      let a = k (after w e) in
      answers 0 (suc a.steps) (e.bus + a.bus) a.cause a.world

  abbrev pub ran : ℕ → W → A
  ran zero w = answers 0 0 0 (cause_of (M.rule M.step w.box)) w
  ran (suc n) w = stepped (ran n) w (M.rule M.step w.box)

  abbrev pub plain : Call M.I → W → A
  plain (give i) w = gave w (M.steps i) (M.rule i w.box)
  plain (run n) w = ran n w
  plain back w = backed w (K.pop w.journal)

  -- the checks that each call makes first (0: passed)
  module _ (check : World M.C K.J → ℕ) where
    abbrev pub answer : Call M.I → W → A
    answer c w = guarded (check w) w (plain c w)

    pub record Played : Type 0 where
      pub world : W
      pub left : Left M.I

    -- a list of calls, the first one first, each handed what the one before it returned
    abbrev pub one : (List M.I → ℕ → ℕ) → Call M.I → Played → Played
    one grow c p =
        let a = answer c p.world in
        record { world = a.world; left = leaves grow M.step c a.number a.steps p.left }

    abbrev pub play : (List M.I → ℕ → ℕ) → List (Call M.I) → Played → Played
    play grow [] p = p
    play grow (c ∷ cs) p = play grow cs (one grow c p)

    abbrev pub fresh : Box M.C → K.J → Played
    fresh s j = record { world = record { box = s; journal = j }; left = record { inputs = []; held = 0 } }

    -- Demand 3, after some calls: the state and the memory are what the rules give for the inputs not taken back, from the start s;
    -- the records held are as many as the demand counts; and a step-back made now is refused exactly where that count is 0
    pub record Exactly (s : Box M.C) (p : Played) : Type 0 where
      pub state : ruled M s p.left.inputs ≡ some p.world.box
      pub held : K.held p.world.journal ≡ p.left.held
      pub refused : (answer back p.world).number ≡ back_number p.left.held
