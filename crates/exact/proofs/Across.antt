-- Demand 3 over the C boundary: the start words mean the starting state, words given are taken back as the same machine, and a list of exported calls is
-- the rules' play of them.
use Prim.Native.Nat.{ℕ, zero, suc, ◌≤◌}
use mathlib.Core.Path.{◌≡◌, refl, ◌∙◌, sym, ap, subst}
use mathlib.Core.Bool.{Bool, true, false, cond}
use mathlib.Core.List.{List, [], ◌∷◌, map}
use native.Mathlib.Omega.{arith}
use borrow.Author.Tests.{eqb-false}
use lib.Dec.{eqb}
use lib.ListN.{set}
use Rattle.word.specs.Word.{low_at}
use Rattle.bus.specs.State.{reset}
use Rattle.bus.specs.Good.{Good}
use Rattle.bus.specs.declared.state.Cpu.{Cpu}
use Rattle.bus.specs.declared.state.Stretch.{Stretch}
use Rattle.history.specs.Trace.{Next, refuses, gives, Undo, Answer, Call, give, run, back, Cause, no_run, budget, stopped, Left, leaves, up_to}
use Rattle.history.specs.Trace.{guarded, cause_of, stepped, ran, one, answer, Exactly}
use Rattle.history.specs.Ring.{Ring, slots}
use Rattle.records.specs.Record.{record_with, undo_from}
use Rattle.calls.specs.Inputs.{Input, step, box, next_of, machine}
use Rattle.calls.specs.Calls.{W, check_of, stretch_of, journal_of, went, answer_of, world_of, started}
use Rattle.calls.specs.declared.state.Machine.{Machine as MachineT}
use Rattle.boundary.specs.Boundary.{start_words, stretch_in, taken, given, packed, run_steps, result_of, Crossed, crossed}
use Rattle.entries.specs.declared.Entry.{Entry}
use Rattle.watched.specs.Answer.{Watched, watched_of, as_run}
use Rattle.crossing.specs.Crossing.{watched_result, CrossedList, crossed_with, CrossesWatched}
use Rattle.history.proofs.Exact.{Apt}
use Rattle.exact.specs.Demand3.{Allowed, Made, Chain, ended}
use Rattle.exact.specs.Fields.{Budgeted}
use Rattle.exact.specs.Boundary3.{number_in, steps_in, Owned, meant, Kept, Exported, exported, watching, called, result_in, owned_after}
use Rattle.exact.specs.Boundary3.{Promised, Exports, owned}
use Rattle.exact.specs.Boundary3.{left_over, left_in, start_owned, owned_at_end, Demand3Across}
use Rattle.exact.proofs.Records.{FineUndo, reads-undo}
use Rattle.exact.proofs.Lawful.{roomy, ruly}
use Rattle.exact.proofs.Counts.{counts}
use Rattle.exact.proofs.Places.{stays}
use Rattle.exact.proofs.Played.{reset-keeps, P, at, playing, starting, AptCalls, apt, plays, Reached, reached}
use Rattle.exact.proofs.Stands.{stands, unmoved, few-steps, small-number}
use Rattle.exact.proofs.Seen.{calls, all-apt, played}

-- "The starting state is all words 0 but word 24, which is 2 (T=1), and words 30 and 31": it is the rules' own
pub starts : (p : Stretch) → taken (start_words p) ≡ started p
unfolding undo_from reset
starts p = refl

-- ---- the words that a call gives
abbrev machine_with : Cpu → ℕ → ℕ → MachineT
machine_with c next held = record { cpu = c; next = next; held = held }

-- words 30 and 31 say the protected addresses, and nothing else
told-beside : (p : Stretch) (c : Cpu) (next held : ℕ) → let w = record_with c next held 0 in
    taken (set (set w 30 p.first) 31 p.last) ≡ machine_with (undo_from p w).cpu (undo_from p w).count (undo_from p w).first
unfolding undo_from record_with
told-beside p c next held = refl

reads : (c : Cpu) (next held : ℕ) → Good c → let p = c.board.stretch in
    taken (set (set (record_with c next held 0) 30 p.first) 31 p.last) ≡ machine_with c next held
reads c next held g =
    told-beside c.board.stretch c next held
    ∙ ap (λ (u : Undo Cpu). machine_with u.cpu u.count u.first)
    (reads-undo (record { cpu = c; count = next; first = held; low = 0; high = 0 }) (roomy g) (omega arith))

-- the next call takes them as the machine that they were given for
pub takes-given : (c : Cpu) (next held : ℕ) → Good c → next ≤ 1024 → held ≤ 1024 → taken (given c next held) ≡ machine_with c next held
unfolding given
takes-given c next held g n h =
    let e : low_at 16 next ≡ next = omega arith in
    let f : low_at 16 held ≡ held = omega arith in
    let p = c.board.stretch in
    ap (λ (x : ℕ). taken (set (set (record_with c x (low_at 16 held) 0) 30 p.first) 31 p.last)) e
    ∙ ap (λ (x : ℕ). taken (set (set (record_with c next x 0) 30 p.first) 31 p.last)) f ∙ reads c next held g

abbrev given_of : W → List ℕ
given_of w = given w.box.cpu w.journal.next w.journal.held

abbrev machine_of : W → MachineT
machine_of w = machine_with w.box.cpu w.journal.next w.journal.held

gives_back : {p : Stretch} {w : W} → Reached p w → taken (given_of w) ≡ machine_of w
gives_back {p} {w} r = takes-given w.box.cpu w.journal.next w.journal.held r.good.good.cpu r.sits.next r.sits.held

-- so for every machine that calls reach from the start
pub words-mean : (p : Stretch) (m ws : List ℕ) (xs : List Made) → Allowed m ws → Chain (started p) m ws xs
    → taken (given_of (ended p m ws xs)) ≡ machine_of (ended p m ws xs)
words-mean p m ws xs ok ch =
    let e = played p (slots ws) (started p) m ws (record { inputs = []; held = 0 }) xs (reset-keeps p) ch in
    gives_back {p = p} (subst (λ (q : P p). Reached p q.world) e (reached p m ws (calls xs) ok (all-apt p (started p) m ws xs ch)))

-- ---- the fields of a result
pub number-field : (n s b k : ℕ) → n ≤ 65535 → s ≤ 65535 → number_in (packed n s b k) ≡ n
unfolding packed
number-field n s b k l h = omega arith

steps-field : (n s b k : ℕ) → n ≤ 65535 → s ≤ 65535 → steps_in (packed n s b k) ≡ s
unfolding packed
steps-field n s b k l h = omega arith

-- a run tells its steps
module _ (p : Stretch) where
  cause-steps : (s : ℕ) (x : Next Cpu) → run_steps (cause_of machine (journal_of p) x) s ≡ s
  cause-steps s (refuses n) = refl
  cause-steps s (gives e) = refl

  stepped-steps : (s : ℕ) (f : W → Answer Cpu Ring) (w : W) (x : Next Cpu) → ((v : W) → run_steps (f v).cause s ≡ s) →
      run_steps (stepped machine (journal_of p) f w x).cause s ≡ s
  stepped-steps s f w (refuses n) h = refl
  stepped-steps s f w (gives e) h = h (went w e)

  run-steps : (s k : ℕ) (w : W) → run_steps (ran machine (journal_of p) k w).cause s ≡ s
  run-steps s zero w = cause-steps s (next_of step w.box)
  run-steps s (suc k) w = stepped-steps s (ran machine (journal_of p) k) w (next_of step w.box) (run-steps s k)

-- what is left does not depend on the steps that any other call has
module _ (n : ℕ) (l : Left Input) where
  abbrev left_with : Call Input → ℕ → ℕ → Left Input
  left_with c number steps = leaves (up_to n) step c number steps l

  give-left : (i : Input) (number s t : ℕ) → left_with (give i) number s ≡ left_with (give i) number t
  give-left i zero s t = refl
  give-left i (suc r) s t = refl

  back-left : (number s t : ℕ) → left_with back number s ≡ left_with back number t
  back-left zero s t = refl
  back-left (suc r) s t = refl

  abbrev left_told : Call Input → Answer Cpu Ring → Left Input
  left_told c a = left_with c a.number (run_steps a.cause a.steps)

  run-left : (k check : ℕ) (w : W) (a : Answer Cpu Ring) → run_steps a.cause a.steps ≡ a.steps →
      left_told (run k) (guarded check w a) ≡ left_with (run k) (guarded check w a).number (guarded check w a).steps
  run-left k zero w a e = ap (left_with (run k) a.number) e
  run-left k (suc r) w a e = refl

  told-left : (c : Call Input) (w : W) → left_told c (answer_of c w) ≡ left_with c (answer_of c w).number (answer_of c w).steps
  told-left (give i) w = give-left i (answer_of (give i) w).number _ _
  told-left (run k) w = run-left k (check_of w) w (ran machine (journal_of (stretch_of w)) k w) (run-steps (stretch_of w) _ k w)
  told-left back w = back-left (answer_of back w).number _ _

-- ---- what an answer leaves over the boundary
module _ (a : Answer Cpu Ring) (o o' : Owned) (words_are : cond (eqb a.number 0) (given_of a.world) o.words ≡ o'.words)
    (ram-is : a.world.box.ram ≡ o'.ram) (journal-is : a.world.journal.words ≡ o'.journal) where
  -- the answer's memory and journal, with any machine
  abbrev beside : MachineT → W
  beside x = world_of x a.world.box.ram a.world.journal.words

  meant-same : {w v : List ℕ} → w ≡ v → beside (taken w) ≡ world_of (taken v) o'.ram o'.journal
  meant-same e = rw (e, ram-is, journal-is)

  -- the words mean what the answer leaves: those of an accepted call were given for it, and a refused call changes nothing
  pub world-kept : {p : Stretch} → Reached p a.world → ((a.number ≡ 0 → ⊥) → a.world ≡ meant o) → a.world ≡ meant o'
  world-kept {p} h unmoved = go (eqb a.number 0) refl
    where
      go : (t : Bool) → eqb a.number 0 ≡ t → a.world ≡ meant o'
      go true e = ap beside (sym (gives_back {p = p} h)) ∙ meant-same (rw e at words_are)
      go false e = ap (λ (w : W). beside (machine_of w)) (unmoved (eqb-false a.number 0 e)) ∙ meant-same (rw e at words_are)

-- ---- one call over the boundary
module _ (c : Call Input) (o : Owned) (r : ℕ) (o' : Owned) (k : Kept c o r o') where
  abbrev a : Answer Cpu Ring
  a = answer_of c (meant o)

  result-is : r ≡ result_of a
  unfolding crossed
  result-is = sym (ap (λ (x : Crossed). x.result) k)

  words_are : cond (eqb a.number 0) (given_of a.world) o.words ≡ o'.words
  unfolding crossed
  words_are = ap (λ (x : Crossed). x.words) k

  ram-is : a.world.box.ram ≡ o'.ram
  unfolding crossed
  ram-is = ap (λ (x : Crossed). x.ram) k

  journal-is : a.world.journal.words ≡ o'.journal
  unfolding crossed
  journal-is = ap (λ (x : Crossed). x.journal) k

  run-few : Budgeted c → run_steps a.cause a.steps ≤ 65535
  run-few b = go a.cause (counts c (meant o) b).steps
    where
      go : (t : Cause) → a.steps ≤ 65535 → run_steps t a.steps ≤ 65535
      go no_run h = omega arith
      go budget h = h
      go stopped h = h

  -- bits 0–15 are the number of the answer
  pub number_is : Budgeted c → number_in r ≡ (answer_of c (meant o)).number
  number_is b = ap number_in result-is ∙ number-field a.number _ _ _ (omega (arith, (counts c (meant o) b).number)) (run-few b)

  -- what is left, by the result's number and steps, is what is left by the answer's
  left_is : (n : ℕ) (l : Left Input) → Budgeted c → left_with n l c (number_in r) (steps_in r) ≡ left_with n l c a.number a.steps
  left_is n l b =
      ap (λ (x : ℕ). left_with n l c x (steps_in r)) (number_is b)
      ∙ ap (left_with n l c a.number) (ap steps_in result-is ∙ steps-field a.number _ _ _ (omega (arith, (counts c (meant o) b).number)) (run-few b))
      ∙ told-left n l c (meant o)

  world_is : {p : Stretch} → Reached p a.world → a.world ≡ meant o'
  world_is {p} h = world-kept a o o' words_are ram-is journal-is {p = p} h (stays c (meant o))

-- ---- one watched run over the boundary
module _ (n : ℕ) (l : List Entry) (o : Owned) (r : ℕ) (o' : Owned) (l' : List Entry) (few : n ≤ 65535)
    (k : CrossesWatched n o.words o.ram o.journal l r o'.words o'.ram o'.journal l') where
  abbrev w : Watched
  w = watched_of n l (meant o)

  watched-result : r ≡ watched_result w
  unfolding crossed_with
  watched-result = sym (ap (λ (x : CrossedList). x.crossed.result) k)

  watched-number : number_in r ≡ w.number
  watched-number =
      let s = few-steps n l (meant o) in
      ap number_in watched-result ∙ number-field w.number _ _ _ (omega (arith, small-number n l (meant o))) (omega (arith, s, few))

  watched-steps : steps_in r ≡ w.steps
  watched-steps =
      let s = few-steps n l (meant o) in
      ap steps_in watched-result ∙ steps-field w.number _ _ _ (omega (arith, small-number n l (meant o))) (omega (arith, s, few))

  watched-world : {p : Stretch} → Reached p w.world → w.world ≡ meant o'
  unfolding crossed_with crossed
  watched-world {p} h =
      world-kept (as_run w) o o' (ap (λ (x : CrossedList). x.crossed.words) k) (ap (λ (x : CrossedList). x.crossed.ram) k)
      (ap (λ (x : CrossedList). x.crossed.journal) k) {p = p} h (unmoved n l (meant o))

-- ---- a list of calls over the boundary
-- the call that the rules play for it: of a watched run the plain run of its own steps
abbrev pub stood : Exported → Call Input
stood (exported c r o) = c
stood (watching n l r o l') = run (steps_in r)

abbrev named : List Exported → List (Call Input)
named xs = map stood xs

-- the machine that words mean has the protected addresses that they say
pub meant-stretch : (o : Owned) → stretch_of (meant o) ≡ stretch_in o.words
unfolding undo_from
meant-stretch o = refl

-- ---- for a machine that was started with the protected addresses p
module _ (p : Stretch) where
  pub stood-apt : (o : Owned) (x : Exported) → Promised o x → Apt machine (FineUndo p) (ruly p) (stood x)
  stood-apt o (exported c r o') k = apt p c k.0.0
  stood-apt o (watching n l r o' l') k = tt

  named-apt : (o : Owned) (xs : List Exported) → Exports o xs → AptCalls p (named xs)
  named-apt o [] ch = tt
  named-apt o (x ∷ xs) ch = (stood-apt o x ch.0, named-apt (owned_after x) xs ch.1)

  -- whatever is called from here on, what it reaches is good
  abbrev Ever : ℕ → P p → Type 0
  Ever n q = (cs : List (Call Input)) → AptCalls p cs → Reached p (playing p n cs q).world

  abbrev plays-one : ℕ → Call Input → P p → P p
  plays-one n c q = one machine (journal_of p) check_of (up_to n) c q

  -- what the rules' play of one call has to be: what the words, RAM and journal mean
  abbrev CrossedAs : ℕ → Owned → Left Input → Exported → Type 0
  CrossedAs n o l x =
      Reached p (plays-one n (stood x) (at p (meant o) l)).world
      → plays-one n (stood x) (at p (meant o) l) ≡ at p (meant (owned_after x)) (leaves (up_to n) step (called x) (number_in (result_in x)) (steps_in (result_in x)) l)

crosses-here : (n : ℕ) (o : Owned) (l : Left Input) (x : Exported) → Promised o x → CrossedAs (stretch_of (meant o)) n o l x
crosses-here n o l (exported c r o') k h =
    let p = stretch_of (meant o) in
    ap (at p (answer_of c (meant o)).world) (sym (left_is c o r o' k.1 n l k.0.1))
    ∙ ap (λ (v : W). at p v (left_with n l c (number_in r) (steps_in r))) (world_is c o r o' k.1 {p = p} h)
crosses-here n o l (watching b es r o' es') k h =
    let p = stretch_of (meant o) in
    let s = watched-steps b es o r o' es' k.0 k.1 in
    let q : plays-one p n (run (steps_in r)) (at p (meant o) l) ≡ at p (watched_of b es (meant o)).world (left_with n l (run b) (watched_of b es (meant o)).number
    (watched_of b es (meant o)).steps) =
    ap (λ (i : ℕ). plays-one p n (run i) (at p (meant o) l)) s ∙ stands b es (meant o) p n l
    in
    let v = watched-world b es o r o' es' k.0 k.1 {p = p} (subst (λ (z : P p). Reached p z.world) q h) in
    q ∙ rw (← watched-number b es o r o' es' k.0 k.1, ← s, v)

module _ (p : Stretch) where
  pub crosses-one : (n : ℕ) (o : Owned) (l : Left Input) (x : Exported) → stretch_of (meant o) ≡ p → Promised o x → CrossedAs p n o l x
  crosses-one n o l x e k = subst (λ (q : Stretch). CrossedAs q n o l x) e (crosses-here n o l x k)

  -- the rules' play of the calls is what the words, RAM and journal mean
  crosses : (n : ℕ) (o : Owned) (l : Left Input) (xs : List Exported) → Exports o xs → Ever p n (at p (meant o) l) →
      playing p n (named xs) (at p (meant o) l) ≡ at p (meant (owned o xs)) (left_over n l xs)
  crosses n o l [] ch v = refl
  crosses n o l (x ∷ xs) ch v =
      let t = stood-apt p o x ch.0 in
      let e = crosses-one n o l x (v [] tt).good.stretch ch.0 (v (stood x ∷ []) (t, tt)) in
      ap (playing p n (named xs)) e ∙ crosses n (owned_after x) _ xs ch.1 (subst (Ever p n) e (λ cs f. v (stood x ∷ cs) (t, f)))

  -- demand 3 for who links libmb50.a
  pub demand3-across : (m ws : List ℕ) (xs : List Exported) → Allowed m ws → Exports (start_owned p m ws) xs → Demand3Across p m ws xs
  demand3-across m ws xs ok ch =
      let n = slots ws in
      let none : Left Input = record { inputs = []; held = 0 } in
      let s : starting p m ws ≡ at p (meant (start_owned p m ws)) none = ap (λ (x : MachineT). at p (world_of x m ws) none) (sym (starts p)) in
      let v : Ever p n (at p (meant (start_owned p m ws)) none) = subst (Ever p n) s (λ cs f. reached p m ws cs ok f) in
      let e : playing p n (named xs) (starting p m ws) ≡ at p (meant (owned_at_end p m ws xs)) (left_in ws xs) =
      ap (playing p n (named xs)) s ∙ crosses n (start_owned p m ws) none xs ch v
      in
      let f = named-apt p (start_owned p m ws) xs ch in
      let x = subst (Exactly machine (journal_of p) check_of (box (reset p) m)) e (plays p m ws ok (named xs) f) in
      let q : stretch_of (meant (owned_at_end p m ws xs)) ≡ p = (subst (λ (z : P p). Reached p z.world) e (reached p m ws (named xs) ok f)).good.stretch in
      record {
        state = x.state;
        stretch = sym (meant-stretch (owned_at_end p m ws xs)) ∙ q;
        held = x.held;
        refused = λ r o k. number_is back (owned_at_end p m ws xs) r o k tt
            ∙ ap (λ (z : Stretch). (answer machine (journal_of z) check_of back (meant (owned_at_end p m ws xs))).number) q ∙ x.refused;
      }
