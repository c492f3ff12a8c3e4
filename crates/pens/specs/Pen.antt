-- Q-14's pen: its name poked, the given registers set, the firmware's matching routine run, and r0 reported, all by the machine's calls. And a list of pens.
use Rattle.std.specs.Prelude.{ℕ, zero, suc, ◌+◌, Bool, true, cond, ◌&&◌, List, [], ◌∷◌, ◌++◌, leb, ltb, length, get_or, drop, Option, Some, None, Result, Ok, Err}
use Rattle.bus.specs.State.{word}
use Rattle.history.specs.Trace.{Call, give}
use Rattle.calls.specs.Inputs.{Input, set_register, poke}
use Rattle.calls.specs.Calls.{W, check_of, answer_of}
use Rattle.entries.specs.Entries.{entry}
use Rattle.watching.specs.declared.Ending.{Ending}
use Rattle.watching.specs.declared.Ending.TheVariants.{Refused}
use Rattle.watched.specs.Answer.{Watched, or_else, watched_of}
use Rattle.utf8.specs.Latin.{judged_of, latin_of}
use Rattle.utf8.specs.declared.Unfit.{Unfit}
use Rattle.utf8.specs.declared.Unfit.TheVariants.{NotUtf8, NotLatin}
use Rattle.manifests.specs.Manifests.{held_of, name_of}
use Rattle.manifests.specs.declared.Held.{Held}

-- "`setup` holds words of 16 bits: 0 the name's address, 1 the address to stop at, 2 the budget, then for each given register its number and its content";
-- "A setup shorter than three words reads as 0 where it has none"
abbrev pub address_in : List ℕ → ℕ
address_in setup = get_or setup 0 0

abbrev pub stop_in : List ℕ → ℕ
stop_in setup = get_or setup 1 0

abbrev pub budget_in : List ℕ → ℕ
budget_in setup = get_or setup 2 0

abbrev pub given_in : List ℕ → List ℕ
given_in setup = drop 3 setup

-- "a last word without its pair is not read"
unfoldable pub settings : List ℕ → List (Call Input)
settings [] = []
settings (i ∷ []) = []
settings (i ∷ x ∷ s) = give (set_register i x) ∷ settings s

-- "6 for a given register": no number is over 15
unfoldable pub all_registers : List ℕ → Bool
all_registers [] = true
all_registers (i ∷ []) = true
all_registers (i ∷ x ∷ s) = ltb i 16 && all_registers s

-- bytes poked, in rising order
unfoldable pub pokings : ℕ → List ℕ → List (Call Input)
pokings a [] = []
pokings a (x ∷ s) = give (poke a x) ∷ pokings (a + 1) s

-- "Each name is turned into single bytes .., poked with a closing 0 at a given address, given registers are set"
abbrev pub preparing : List ℕ → List ℕ → List (Call Input)
preparing setup name = pokings (address_in setup) (latin_of name ++ (0 ∷ [])) ++ settings (given_in setup)

-- calls, each handed what the one before it left
unfoldable pub made : List (Call Input) → W → W
made [] w = w
made (c ∷ cs) w = made cs (answer_of c w).world

-- "the firmware's matching routine runs until pc is a given address (as a Q-9 break), the machine halts or the budget ends"
abbrev pub matching : List ℕ → W → Watched
matching setup w = watched_of (budget_in setup) (entry (stop_in setup) 1 0 ∷ []) w

-- a pen's answer: its number (0: accepted), where its name lies, r0, the run's steps and bus bytes, why it stopped, and all that is there afterwards
pub record Penned : Type 0 where
  pub number : ℕ
  pub held : Option Held
  pub r0 : ℕ
  pub steps : ℕ
  pub bus : ℕ
  pub ending : Ending
  pub world : W

-- ".. and r0 is reported"
abbrev pub reported : Option Held → Watched → Penned
reported h a =
    record {
      number = 0;
      held = h;
      r0 = word a.world.box.cpu.regs 0;
      steps = a.steps;
      bus = a.bus;
      ending = a.ending;
      world = a.world;
    }

-- "a refused pen touches neither"
abbrev pub refused : ℕ → Option Held → W → Penned
refused n h w = record { number = n; held = h; r0 = 0; steps = 0; bus = 0; ending = Refused; world = w }

abbrev pub unless_refused : ℕ → Option Held → W → Penned → Penned
unless_refused zero h w a = a
unless_refused (suc n) h w a = refused (suc n) h w

-- "80 name not UTF-8, 81 code point over 0xff or NUL, 82 name and 0 don't fit RAM", from an address on and without wrapping
unfoldable pub judged_check : Result ℕ Unfit → ℕ → ℕ → ℕ
judged_check (Err NotUtf8) at ram = 80
judged_check (Err NotLatin) at ram = 81
judged_check (Ok n) at ram = cond (leb (at + (n + 1)) ram) 0 82

-- "per pen in this order: 83 pen in neither list or its line no number", then these
unfoldable pub name_check : Option Held → Result ℕ Unfit → ℕ → ℕ → ℕ
name_check (Some h) j at ram = judged_check j at ram
name_check None j at ram = 83

-- "Refusals: 6 for a given register before any pen", after 1, 2 and 3
abbrev pub first_check : List ℕ → W → ℕ
first_check setup w = or_else (check_of w) (cond (all_registers (given_in setup)) 0 6)

-- all that refuses a pen, by its name's judgement
abbrev pub pen_check : Option Held → Result ℕ Unfit → List ℕ → W → ℕ
pen_check h j setup w = or_else (first_check setup w) (name_check h j (address_in setup) (length w.box.ram))

-- a pen whose name was looked up
unfoldable pub pen_named : Option Held → List ℕ → List ℕ → W → Penned
pen_named h name setup w =
    unless_refused (pen_check h (judged_of name) setup w) h w (reported h (matching setup (made (preparing setup name) w)))

-- a pen by its line
unfoldable pub pen_of : List ℕ → List ℕ → List ℕ → List ℕ → W → Penned
pen_of line today last setup w = let h = held_of line today last in pen_named h (name_of today last h) setup w

-- "State and RAM go on from pen to pen; .. the next pen follows": what each pen of a list answers
unfoldable pub pens_of : List (List ℕ) → List ℕ → List ℕ → List ℕ → W → List Penned
pens_of [] today last setup w = []
pens_of (l ∷ ls) today last setup w = let a = pen_of l today last setup w in a ∷ pens_of ls today last setup a.world

-- and what is there after them
unfoldable pub after_pens : List (List ℕ) → List ℕ → List ℕ → List ℕ → W → W
after_pens [] today last setup w = w
after_pens (l ∷ ls) today last setup w = after_pens ls today last setup (pen_of l today last setup w).world
