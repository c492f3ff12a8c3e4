-- Any calls from the start, played by the rules: demand 3 holds of them, and every state that they reach is good, with next slot and records held in
-- their places. `Seen` and `Across` show that what was seen is such a play.
use Prim.Native.Nat.{ℕ, zero, suc}
use mathlib.Core.Path.{◌≡◌, refl, subst}
use mathlib.Core.List.{List, [], ◌∷◌}
use mathlib.Core.Option.{Option, some, none}
use native.Mathlib.Omega.{arith}
use Rattle.bus.specs.State.{reset}
use Rattle.bus.specs.declared.state.Cpu.{Cpu}
use Rattle.bus.specs.declared.state.Stretch.{Stretch}
use Rattle.bus.proofs.Kept.{reset-good}
use Rattle.history.specs.Trace.{Box, Next, refuses, gives, Call, give, run, back, Left, rest, took_times, took, leaves, up_to}
use Rattle.history.specs.Trace.{onward, box_of, ruled, Played, one, play, answer, Exactly}
use Rattle.history.specs.Ring.{ring_of, slots}
use Rattle.history.proofs.Exact.{Lawful, Apt, AllApt, exact}
use Rattle.calls.specs.Inputs.{Input, step, box, next_of, machine}
use Rattle.calls.specs.Calls.{W, check_of, journal_of, world_of, started}
use Rattle.exact.specs.Demand3.{Allowed, Fits, Typed}
use Rattle.exact.proofs.Records.{FineUndo}
use Rattle.exact.proofs.Lawful.{GoodAt, lawful-at, ruly, Slots, passes, grows}
use Rattle.exact.proofs.Places.{Sits, call-sits}

pub reset-keeps : (s : Stretch) → (reset s).board.stretch ≡ s
unfolding reset
reset-keeps s = refl

-- a machine that was started with the protected addresses s
module _ (s : Stretch) where
  abbrev pub P : Type 0
  P = Played machine (journal_of s) check_of

  abbrev pub at : W → Left Input → P
  at w l = record { world = w; left = l }

  -- calls made on a machine whose journal has n slots
  abbrev pub playing : ℕ → List (Call Input) → P → P
  playing n cs p = play machine (journal_of s) check_of (up_to n) cs p

  -- "Start from reset, with memory and an empty journal"
  abbrev pub starting : List ℕ → List ℕ → P
  starting m ws = at (world_of (started s) m ws) (record { inputs = []; held = 0 })

  abbrev pub AptCalls : List (Call Input) → Type 0
  AptCalls = AllApt machine (FineUndo s) (ruly s)

  pub apt : (c : Call Input) → Typed c → Apt machine (FineUndo s) (ruly s) c
  apt (give i) t = t
  apt (run n) t = t
  apt back t = t

  module _ (m ws : List ℕ) (ok : Allowed m ws) where
    start-good : GoodAt s (box (reset s) m)
    start-good = record { good = record { cpu = reset-good s; bytes = ok.bytes; size = ok.ram }; stretch = reset-keeps s }

    pub plays : (cs : List (Call Input)) → AptCalls cs → Exactly machine (journal_of s) check_of (box (reset s) m) (playing (slots ws) cs (starting m ws))
    plays cs f =
        let n = slots ws in
        exact machine (FineUndo s) (ruly s) (box (reset s) m) (journal_of s) (Slots s n) (up_to n) (λ i is b u us h. grows n u us) check_of
        (λ w us g. passes s n (omega (arith, ok.words)) w us g.good) start-good (ring_of ws 0 0)
        (record { sized = omega (arith, ok.whole); inside = omega arith; count = refl; room = omega arith; back = tt })
        cs f

  -- ---- the inputs not taken back fit their types
  AllFit : List Input → Type 0
  AllFit [] = Unit {0}
  AllFit (i ∷ is) = Fits i × AllFit is

  rest-fit : (is : List Input) → AllFit is → AllFit (rest is)
  unfolding AllFit
  rest-fit [] f = tt
  rest-fit (i ∷ is) f = f.1

  times-fit : (n k : ℕ) (l : Left Input) → AllFit l.inputs → AllFit (took_times (up_to n) k step l).inputs
  unfolding AllFit
  times-fit n zero l f = f
  times-fit n (suc k) l f = times-fit n k (took (up_to n) step l) (tt, f)

  leaves-fit : (n : ℕ) (c : Call Input) (number steps : ℕ) (l : Left Input) → Apt machine (FineUndo s) (ruly s) c → AllFit l.inputs →
      AllFit (leaves (up_to n) step c number steps l).inputs
  unfolding AllFit
  leaves-fit n (give i) zero k l t f = (t, f)
  leaves-fit n (give i) (suc r) k l t f = f
  leaves-fit n (run k) zero j l t f = times-fit n j l f
  leaves-fit n (run k) (suc r) j l t f = f
  leaves-fit n back zero k l t f = rest-fit l.inputs f
  leaves-fit n back (suc r) k l t f = f

  play-fits : (n : ℕ) (cs : List (Call Input)) (p : P) → AptCalls cs → AllFit p.left.inputs → AllFit (playing n cs p).left.inputs
  play-fits n [] p a f = f
  play-fits n (c ∷ cs) p a f =
      let x = answer machine (journal_of s) check_of c p.world in
      play-fits n cs (one machine (journal_of s) check_of (up_to n) c p) a.1 (leaves-fit n c x.number x.steps p.left a.0 f)

  -- ---- such inputs lead from a good state to a good state
  GoodEnd : Option (Box Cpu) → Type 0
  GoodEnd none = Unit {0}
  GoodEnd (some b) = GoodAt s b

  next-good : (b : Box Cpu) (x : Next Cpu) → Lawful (GoodAt s) b x → GoodEnd (box_of x)
  unfolding GoodEnd
  next-good b (refuses n) l = tt
  next-good b (gives e) l = l.0

  onward-good : (i : Input) (x : Option (Box Cpu)) → Fits i → GoodEnd x → GoodEnd (onward machine i x)
  unfolding GoodEnd
  onward-good i none f g = tt
  onward-good i (some b) f g = next-good b (next_of i b) (lawful-at s i b f g)

  ruled-good : (b : Box Cpu) (is : List Input) → GoodAt s b → AllFit is → GoodEnd (ruled machine b is)
  unfolding GoodEnd AllFit
  ruled-good b [] g f = g
  ruled-good b (i ∷ is) g f = onward-good i (ruled machine b is) f.0 (ruled-good b is g f.1)

  -- ---- what the calls reach
  play-sits : (n : ℕ) (cs : List (Call Input)) (p : P) → Sits p.world.journal → Sits (playing n cs p).world.journal
  play-sits n [] p h = h
  play-sits n (c ∷ cs) p h = play-sits n cs (one machine (journal_of s) check_of (up_to n) c p) (call-sits s c p.world h)

  pub record Reached (w : W) : Type 0 where
    pub good : GoodAt s w.box
    pub sits : Sits w.journal

  pub reached : (m ws : List ℕ) (cs : List (Call Input)) → Allowed m ws → AptCalls cs → Reached (playing (slots ws) cs (starting m ws)).world
  unfolding GoodEnd AllFit
  reached m ws cs ok f =
      let n = slots ws in
      record {
        good =
            subst GoodEnd (plays m ws ok cs f).state
            (ruled-good (box (reset s) m) (playing n cs (starting m ws)).left.inputs (start-good m ws ok) (play-fits n cs (starting m ws) f tt));
        sits = play-sits n cs (starting m ws) (record { size = ok.words; next = omega arith; held = omega arith });
      }
