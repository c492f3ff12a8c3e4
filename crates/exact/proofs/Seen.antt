-- Demand 3 over what was seen: a list of calls with the answers that came, each as its contract says, each made on what the one before it left.
use Prim.Native.Nat.{ℕ}
use mathlib.Core.Path.{◌≡◌, refl, sym, ◌∙◌, ap, subst}
use mathlib.Core.List.{List, [], ◌∷◌, map}
use Rattle.bus.specs.declared.state.Cpu.{Cpu}
use Rattle.bus.specs.declared.state.Stretch.{Stretch}
use Rattle.history.specs.Trace.{Answer, Call, run, back, Left, leaves, up_to, one, answer}
use Rattle.history.specs.Ring.{Ring, slots}
use Rattle.history.proofs.Exact.{Apt}
use Rattle.calls.specs.Inputs.{Input, step, machine}
use Rattle.calls.specs.Calls.{W, check_of, stretch_of, journal_of, world_of, replied, started}
use Rattle.calls.specs.declared.state.Machine.{Machine as MachineT}
use Rattle.calls.specs.declared.state.Reply.{Reply}
use Rattle.bus.proofs.Spared.{sparing-same, sparing-on}
use Rattle.watched.specs.Answer.{Watched}
use Rattle.exact.specs.Demand3.{Allowed, Made, made, watching, called, answered, machine_after, ram_after, words_after}
use Rattle.exact.specs.Demand3.{Kept, Chain, last, left_by, ended, Demand3}
use Rattle.exact.specs.Protected.{Bound, Unwritten, ProtectedOver}
use Rattle.exact.proofs.Records.{FineUndo}
use Rattle.exact.proofs.Lawful.{ruly}
use Rattle.exact.proofs.Fixed.{fixed, spared, watched-spared}
use Rattle.exact.proofs.Single.{world-back}
use Rattle.exact.proofs.Played.{reset-keeps, at, playing, AptCalls, apt, plays}
use Rattle.exact.proofs.Stands.{stands}

-- the call that the rules play for it: of a watched run the plain run of its own steps
abbrev stood : Made → Call Input
stood (made c r ram ws) = c
stood (watching n l r ram ws l') = run r.told.steps

abbrev pub calls : List Made → List (Call Input)
calls xs = map stood xs

abbrev after : Made → W
after x = world_of (machine_after x) (ram_after x) (words_after x)

module _ (p : Stretch) where
  stood-apt : (m : MachineT) (ram ws : List ℕ) (x : Made) → Kept m ram ws x → Apt machine (FineUndo p) (ruly p) (stood x)
  stood-apt m ram ws (made c r ram' ws') k = apt p c k.0
  stood-apt m ram ws (watching n l r ram' ws' l') k = tt

  pub all-apt : (m : MachineT) (ram ws : List ℕ) (xs : List Made) → Chain m ram ws xs → AptCalls p (calls xs)
  all-apt m ram ws [] ch = tt
  all-apt m ram ws (x ∷ xs) ch = (stood-apt m ram ws x ch.0, all-apt (machine_after x) (ram_after x) (words_after x) xs ch.1)

-- one call: the rules' play of it is what was seen
seen_here : (n : ℕ) (m : MachineT) (ram ws : List ℕ) (l : Left Input) (x : Made) → Kept m ram ws x → let p = m.cpu.board.stretch in
    one machine (journal_of p) check_of (up_to n) (stood x) (at p (world_of m ram ws) l)
    ≡ at p (after x) (leaves (up_to n) step (called x) (answered x).number (answered x).steps l)
seen_here n m ram ws l (made c r ram' ws') k =
    let p = m.cpu.board.stretch in
    ap (λ (a : Answer Cpu Ring). at p a.world (leaves (up_to n) step c a.number a.steps l)) k.1
    ∙ ap (λ (w : W). at p w (leaves (up_to n) step c (replied r ram' ws').number (replied r ram' ws').steps l)) (world-back r.answer (world_of r.machine ram' ws'))
seen_here n m ram ws l (watching b es r ram' ws' es') k =
    let p = m.cpu.board.stretch in
    ap (λ (a : Watched). one machine (journal_of p) check_of (up_to n) (run a.steps) (at p (world_of m ram ws) l)) (sym k)
    ∙ stands b es (world_of m ram ws) p n l
    ∙ ap (λ (a : Watched). at p a.world (leaves (up_to n) step (run b) a.number a.steps l)) k

-- no call that was seen changed the protected addresses
seen-fixed : (m : MachineT) (ram ws : List ℕ) (x : Made) → Kept m ram ws x → (machine_after x).cpu.board.stretch ≡ m.cpu.board.stretch
seen-fixed m ram ws (made c r ram' ws') k =
    sym (ap stretch_of (world-back r.answer (world_of r.machine ram' ws'))) ∙ sym (ap (λ (a : Answer Cpu Ring). stretch_of a.world) k.1) ∙ fixed c (world_of m ram ws)
seen-fixed m ram ws (watching n l r ram' ws' l') k =
    sym (ap (λ (a : Watched). stretch_of a.world) k) ∙ (watched-spared n l (world_of m ram ws)).stretch

module _ (p : Stretch) where
  seen : (n : ℕ) (m : MachineT) (ram ws : List ℕ) (l : Left Input) (x : Made) → m.cpu.board.stretch ≡ p → Kept m ram ws x →
      one machine (journal_of p) check_of (up_to n) (stood x) (at p (world_of m ram ws) l)
      ≡ at p (after x) (leaves (up_to n) step (called x) (answered x).number (answered x).steps l)
  seen n m ram ws l x e k =
      subst
      (λ (q : Stretch). one machine (journal_of q) check_of (up_to n) (stood x) (at q (world_of m ram ws) l)
      ≡ at q (after x) (leaves (up_to n) step (called x) (answered x).number (answered x).steps l))
      e (seen_here n m ram ws l x k)

  -- the rules' play of the calls is what was seen
  pub played : (n : ℕ) (m : MachineT) (ram ws : List ℕ) (l : Left Input) (xs : List Made) → m.cpu.board.stretch ≡ p → Chain m ram ws xs →
      playing p n (calls xs) (at p (world_of m ram ws) l) ≡ at p (last m ram ws xs) (left_by n l xs)
  played n m ram ws l [] e ch = refl
  played n m ram ws l (x ∷ xs) e ch =
      ap (playing p n (calls xs)) (seen n m ram ws l x e ch.0)
      ∙ played n (machine_after x) (ram_after x) (words_after x) _ xs (seen-fixed m ram ws x ch.0 ∙ e) ch.1

  last-fixed : (m : MachineT) (ram ws : List ℕ) (xs : List Made) → m.cpu.board.stretch ≡ p → Chain m ram ws xs → stretch_of (last m ram ws xs) ≡ p
  last-fixed m ram ws [] e ch = e
  last-fixed m ram ws (x ∷ xs) e ch = last-fixed (machine_after x) (ram_after x) (words_after x) xs (seen-fixed m ram ws x ch.0 ∙ e) ch.1

  pub demand3 : (m ws : List ℕ) (xs : List Made) → Allowed m ws → Chain (started p) m ws xs → Demand3 p m ws xs
  demand3 m ws xs ok ch =
      let e = plays p m ws ok (calls xs) (all-apt p (started p) m ws xs ch) in
      let f = rw (played (slots ws) (started p) m ws (record { inputs = []; held = 0 }) xs (reset-keeps p) ch) at e in
      record {
        state = f.state;
        held = f.held;
        refused = ap (λ (q : Stretch). (answer machine (journal_of q) check_of back (ended p m ws xs)).number) (last-fixed (started p) m ws xs (reset-keeps p) ch) ∙ f.refused;
      }

-- Q-4: no call of a list but pokes and step-backs changes a protected RAM byte
kept-spared : (m : MachineT) (ram ws : List ℕ) (c : Call Input) (r : Reply) (ram' ws' : List ℕ) → Bound c → Kept m ram ws (made c r ram' ws')
    → Unwritten (world_of m ram ws) (world_of r.machine ram' ws')
kept-spared m ram ws c r ram' ws' b k =
    subst (Unwritten (world_of m ram ws)) (ap (λ (a : Answer Cpu Ring). a.world) k.1 ∙ world-back r.answer (world_of r.machine ram' ws')) (spared c (world_of m ram ws) b)

pub protected-over : (m : MachineT) (ram ws : List ℕ) (xs : List Made) → ProtectedOver m ram ws xs
protected-over m ram ws [] ch b = sparing-same m.cpu.board.stretch ram
protected-over m ram ws (made c r ram' ws' ∷ xs) ch b =
    sparing-on (kept-spared m ram ws c r ram' ws' b.0 ch.0) (protected-over r.machine ram' ws' xs ch.1 b.1)
protected-over m ram ws (watching n l r ram' ws' l' ∷ xs) ch b =
    sparing-on (subst (Unwritten (world_of m ram ws)) (ap (λ (a : Watched). a.world) ch.0) (watched-spared n l (world_of m ram ws)))
    (protected-over r.machine ram' ws' xs ch.1 b)
