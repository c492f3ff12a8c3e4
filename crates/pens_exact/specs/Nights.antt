-- Demand 3 over a night's work, in its own words: pens among the calls, and whole lists of pens. `proofs/Nights.antt` proves it.
use Rattle.std.specs.Prelude.{ℕ, zero, suc, ◌≡◌, List, [], ◌∷◌, map}
use Rattle.std.proofs.Math.Option.{some}
use Rattle.bus.specs.State.{reset}
use Rattle.bus.specs.Good.{Within}
use Rattle.bus.specs.declared.state.Stretch.{Stretch}
use Rattle.history.specs.Trace.{Call, run, back, Left, leaves, up_to, ruled, back_number}
use Rattle.history.specs.Ring.{slots}
use Rattle.calls.specs.Inputs.{Input, step, box, machine}
use Rattle.calls.specs.Calls.{W, answer_of, world_of, started}
use Rattle.calls.specs.declared.state.Machine.{Machine}
use Rattle.watching.specs.declared.Ending.TheVariants.{Refused, Watch}
use Rattle.manifests.specs.Manifests.{held_of, name_of, lines as lines_in}
use Rattle.pens.specs.Pen.{Penned, budget_in, preparing, made, matching, pen_of, after_pens}
use Rattle.pens.specs.Code.{report_as}
use Rattle.pens.specs.declared.Report.{Report}
use Rattle.exact.specs.Demand3.{Made}
use Rattle.exact.specs.Demand3 as Calls

-- one deed of a night: one of "our calls" as demand 3 has them, a watched run too; or a pen: its line, the two manifests, the setup, what the code
-- returned, and memory and journal afterwards
pub data Deed : Type 0 where
  done : Made → Deed
  pen : (line today last setup : List ℕ) → Report → (ram ws : List ℕ) → Deed

abbrev pub machine_after : Deed → Machine
machine_after (done x) = Calls.machine_after x
machine_after (pen line today last setup r ram ws) = r.machine

abbrev pub ram_after : Deed → List ℕ
ram_after (done x) = Calls.ram_after x
ram_after (pen line today last setup r ram ws) = ram

abbrev pub words_after : Deed → List ℕ
words_after (done x) = Calls.words_after x
words_after (pen line today last setup r ram ws) = ws

-- a pen keeps its promise; "`setup` holds words of 16 bits"
abbrev pub Kept : Machine → List ℕ → List ℕ → Deed → Type 0
Kept m ram ws (done x) = Calls.Kept m ram ws x
Kept m ram ws (pen line today last setup r ram' ws') = Within 16 setup × (pen_of line today last setup (world_of m ram ws) ≡ report_as r ram' ws')

-- "State and RAM go on from pen to pen": each deed is handed the machine, memory and journal that the one before it left
abbrev pub Chain : Machine → List ℕ → List ℕ → List Deed → Type 0
Chain m ram ws [] = Unit {0}
Chain m ram ws (x ∷ xs) = Kept m ram ws x × Chain (machine_after x) (ram_after x) (words_after x) xs

-- what stands after them
abbrev pub last : Machine → List ℕ → List ℕ → List Deed → W
last m ram ws [] = world_of m ram ws
last m ram ws (x ∷ xs) = last (machine_after x) (ram_after x) (words_after x) xs

-- ---- what is left: "the inputs not taken back", newest first, and "the number held"
-- the name of a line, the very bytes of whichever list held it
abbrev pub named : List ℕ → List ℕ → List ℕ → List ℕ
named line today last = name_of today last (held_of line today last)

-- what a list of inputs leaves, each accepted
abbrev pub left_by_each : ℕ → List (Call Input) → Left Input → Left Input
left_by_each n [] l = l
left_by_each n (c ∷ cs) l = left_by_each n cs (leaves (up_to n) step c 0 0 l)

-- an accepted pen leaves what its pokes, its given registers and its run leave, "a run counts as its steps"; "a refused pen touches neither" and
-- leaves what was left
abbrev pub left_by_pen : ℕ → List ℕ → List ℕ → ℕ → ℕ → Left Input → Left Input
left_by_pen n setup name zero steps l = leaves (up_to n) step (run (budget_in setup)) 0 steps (left_by_each n (preparing setup name) l)
left_by_pen n setup name (suc number) steps l = l

abbrev pub left_by_deed : ℕ → Deed → Left Input → Left Input
left_by_deed n (done x) l = leaves (up_to n) step (Calls.called x) (Calls.answered x).number (Calls.answered x).steps l
left_by_deed n (pen line today last setup r ram ws) l = left_by_pen n setup (named line today last) r.number r.steps l

abbrev pub left_by : ℕ → Left Input → List Deed → Left Input
left_by n l [] = l
left_by n l (x ∷ xs) = left_by n (left_by_deed n x l) xs

abbrev pub left : List ℕ → List Deed → Left Input
left ws xs = left_by (slots ws) (record { inputs = []; held = 0 }) xs

-- ---- the demand
-- "Start from reset, with memory and an empty journal .. After any mix of accepted inputs and step-backs"
abbrev pub ended : Stretch → List ℕ → List ℕ → List Deed → W
ended p m ws xs = last (started p) m ws xs

pub record Demand3Pens (p : Stretch) (m ws : List ℕ) (xs : List Deed) : Type 0 where
  -- "registers, status registers, halted mark, devices and memory are what demand 2's rules give for the inputs not taken back, run in order
  -- from the start"
  pub state : ruled machine (box (reset p) m) (left ws xs).inputs ≡ some (ended p m ws xs).box
  pub held : (ended p m ws xs).journal.held ≡ (left ws xs).held
  -- "A step-back is refused exactly when no record is held"
  pub refused : (answer_of back (ended p m ws xs)).number ≡ back_number (left ws xs).held

-- ---- a list of pens
-- a report, read back from the answer
abbrev pub report_from : Penned → Report
report_from a =
    record {
      number = a.number;
      held = a.held;
      r0 = a.r0;
      steps = a.steps;
      bus = a.bus;
      ending = a.ending;
      machine = record { cpu = a.world.box.cpu; next = a.world.journal.next; held = a.world.journal.held };
    }

-- a pen of a list: its line, what the code returned, and memory and journal afterwards
pub record Line : Type 0 where
  pub line : List ℕ
  pub report : Report
  pub ram : List ℕ
  pub words : List ℕ

abbrev pub deed_of : List ℕ → List ℕ → List ℕ → Line → Deed
deed_of today last setup p = pen p.line today last setup p.report p.ram p.words

abbrev pub deeds_of : List ℕ → List ℕ → List ℕ → List Line → List Deed
deeds_of today last setup ps = map (deed_of today last setup) ps

abbrev pub lines_of : List Line → List (List ℕ)
lines_of ps = map (λ (p : Line). p.line) ps

abbrev pub reports_of : List Line → List Penned
reports_of ps = map (λ (p : Line). report_as p.report p.ram p.words) ps

-- what the rules answer to each line of a list is such a list
unfoldable pub answers_of : List ℕ → List ℕ → List ℕ → List (List ℕ) → W → List Line
answers_of today last setup [] w = []
answers_of today last setup (l ∷ ls) w =
    let a = pen_of l today last setup w in
    record { line = l; report = report_from a; ram = a.world.box.ram; words = a.world.journal.words } ∷ answers_of today last setup ls a.world

-- demand 3 of a whole list from the start: of what is there after it, as `list` of the program promises it
pub record Demand3List (p : Stretch) (m ws lines today last setup : List ℕ) : Type 0 where
  pub demand : Demand3Pens p m ws (deeds_of today last setup (answers_of today last setup (lines_in lines) (world_of (started p) m ws)))
  pub after : ended p m ws (deeds_of today last setup (answers_of today last setup (lines_in lines) (world_of (started p) m ws)))
      ≡ after_pens (lines_in lines) today last setup (world_of (started p) m ws)

-- ---- a pen's calls
-- each call is accepted, handed what the one before it left
abbrev pub AllAccepted : List (Call Input) → W → Type 0
AllAccepted [] w = Unit {0}
AllAccepted (c ∷ cs) w = ((answer_of c w).number ≡ 0) × AllAccepted cs (answer_of c w).world

-- of an accepted pen each poke, each set register and the run
pub record Accepted (setup name : List ℕ) (w : W) : Type 0 where
  pub given : AllAccepted (preparing setup name) w
  pub run : (matching setup (made (preparing setup name) w)).number ≡ 0
  -- "until pc is a given address (as a Q-9 break), the machine halts or the budget ends": by no other cause
  pub ends : (matching setup (made (preparing setup name) w)).ending ≡ Refused → ⊥
  pub unwatched : (matching setup (made (preparing setup name) w)).ending ≡ Watch → ⊥
