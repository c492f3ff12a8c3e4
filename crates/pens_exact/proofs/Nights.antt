-- Demand 3 over a night's work: a pen is a list of calls, so a list of deeds is one too.
use Prim.Native.Nat.{ℕ, zero, suc}
use mathlib.Core.Path.{◌≡◌, refl, sym, ◌∙◌, ap, subst}
use mathlib.Core.List.{List, [], ◌∷◌, ◌++◌}
use native.Mathlib.Omega.{arith}
use Rattle.bus.specs.Good.{Within}
use Rattle.bus.specs.declared.state.Cpu.{Cpu}
use Rattle.bus.specs.declared.state.Stretch.{Stretch}
use Rattle.history.specs.Trace.{Box, Call, run, back, Left, leaves, up_to, one, answer}
use Rattle.history.specs.Ring.{slots}
use Rattle.calls.specs.Inputs.{Input, step, machine}
use Rattle.calls.specs.Calls.{W, check_of, world_of, started, stretch_of, journal_of}
use Rattle.calls.specs.declared.state.Machine.{Machine as MachineT}
use Rattle.entries.specs.Entries.{entry}
use Rattle.manifests.specs.Manifests.{held_of, lines as lines_in}
use Rattle.std.specs.Prelude.{Option}
use Rattle.manifests.specs.declared.Held.{Held}
use Rattle.pens.specs.Pen.{Penned, stop_in, budget_in, preparing, made, matching, pen_named, pen_of, pens_of, after_pens}
use Rattle.pens.specs.Code.{report_as}
use Rattle.pens.proofs.Checks.{accepts}
use Rattle.exact.specs.Demand3.{Allowed}
use Rattle.exact.proofs.Lawful.{GoodBox, GoodAt}
use Rattle.exact.proofs.Played.{P, at, playing, starting, AptCalls, plays, reached}
use Rattle.exact.proofs.Stands.{stands}
use Rattle.exact.proofs.Seen.{calls, all-apt, played}
use Rattle.pens_exact.specs.Cut.{Typed}
use Rattle.pens_exact.specs.Nights.{Deed, done, pen, machine_after, ram_after, words_after, Kept, Chain, last, named}
use Rattle.pens_exact.specs.Nights.{left_by_each, left_by_pen, left_by_deed, left_by, ended, Demand3Pens, Line, deeds_of, lines_of, reports_of, report_from, answers_of, Demand3List}
use Rattle.pens_exact.proofs.Accepted.{number-zero, pen-go, run-goes, refused-pen}

-- ---- calls after calls
pub typed : (b : Box Cpu) → GoodBox b → Typed b.cpu b.ram
typed b g =
    record {
      regs = g.cpu.regs;
      long = g.cpu.csrs.long;
      words = g.cpu.csrs.words;
      board = g.cpu.board;
      bytes = g.bytes;
    }

-- for a machine that was started with the protected addresses s
module _ (s : Stretch) where
  pub play-on : (n : ℕ) (cs ds : List (Call Input)) (p : P s) → playing s n (cs ++ ds) p ≡ playing s n ds (playing s n cs p)
  play-on n [] ds p = refl
  play-on n (c ∷ cs) ds p = play-on n cs ds (one machine (journal_of s) check_of (up_to n) c p)

  pub apt-on : (cs ds : List (Call Input)) → AptCalls s cs → AptCalls s ds → AptCalls s (cs ++ ds)
  apt-on [] ds f g = g
  apt-on (c ∷ cs) ds f g = (f.0, apt-on cs ds f.1 g)

  -- ---- an accepted pen
  -- calls that the rules play from p to q
  pub record Plays (n : ℕ) (p q : P s) : Type 0 where
    pub by : List (Call Input)
    pub apt : AptCalls s by
    pub leads : playing s n by p ≡ q

  module _ (h : Option Held) (name setup : List ℕ) (w : W) where
    -- the machine as the pen's run finds it
    abbrev ready : W
    ready = made (preparing setup name) w

    -- its pokes, its given registers, and a plain run of its run's steps
    pen-plays : Within 16 setup → GoodAt s w.box → (pen_named h name setup w).number ≡ 0 → (n : ℕ) (l : Left Input)
        → Plays n (at s w l) (at s (pen_named h name setup w).world (left_by_pen n setup name 0 (pen_named h name setup w).steps l))
    pen-plays f g e n l =
        let z = number-zero h name setup w e in
        let c = pen-go h name setup w s g.stretch f (typed w.box g.good) z in
        let a = matching setup ready in
        let i = left_by_each n (preparing setup name) l in
        record {
          by = preparing setup name ++ (run a.steps ∷ []);
          apt = apt-on (preparing setup name) (run a.steps ∷ []) c.apt (tt, tt);
          leads =
              play-on n (preparing setup name) (run a.steps ∷ []) (at s w l)
              ∙ ap (playing s n (run a.steps ∷ [])) (c.plays n l)
              ∙ stands (budget_in setup) (entry (stop_in setup) 1 0 ∷ []) ready s n i
              ∙ ap (λ (k : ℕ). at s a.world (leaves (up_to n) step (run (budget_in setup)) k a.steps i)) (run-goes setup ready c.passing).0
              ∙ ap (λ (x : Penned). at s x.world (left_by_pen n setup name 0 x.steps l)) (sym (accepts h name setup w z));
        }

  -- ---- deed after deed
  module _ (m₀ ws₀ : List ℕ) (ok : Allowed m₀ ws₀) where
    abbrev pub Reaches : P s → Type 0
    Reaches p = Plays (slots ws₀) (starting s m₀ ws₀) p

    pub further : {p q : P s} → Reaches p → Plays (slots ws₀) p q → Reaches q
    further {p} {q} r t =
        record {
          by = r.by ++ t.by;
          apt = apt-on r.by t.by r.apt t.apt;
          leads = play-on (slots ws₀) r.by t.by (starting s m₀ ws₀) ∙ ap (playing s (slots ws₀) t.by) r.leads ∙ t.leads;
        }

    pub good : (w : W) (l : Left Input) → Reaches (at s w l) → GoodAt s w.box
    good w l r = subst (λ (p : P s). GoodAt s p.world.box) r.leads (reached s m₀ ws₀ r.by ok r.apt).good

    pub pen-on : (line today old setup : List ℕ) (w v : W) (number steps : ℕ) (l : Left Input) → Within 16 setup → Reaches (at s w l)
        → (pen_of line today old setup w).number ≡ number → (pen_of line today old setup w).steps ≡ steps → (pen_of line today old setup w).world ≡ v
        → Reaches (at s v (left_by_pen (slots ws₀) setup (named line today old) number steps l))
    unfolding pen_of
    pen-on line today old setup w v zero steps l f r e t q =
        let h = held_of line today old in
        let name = named line today old in
        let z = further r (pen-plays h name setup w f (good w l r) e (slots ws₀) l) in
        subst (λ (x : W). Reaches (at s x (left_by_pen (slots ws₀) setup name 0 steps l))) q
        (subst (λ (k : ℕ). Reaches (at s (pen_named h name setup w).world (left_by_pen (slots ws₀) setup name 0 k l))) t z)
    pen-on line today old setup w v (suc number) steps l f r e t q =
        subst (λ (x : W). Reaches (at s x l)) (sym (refused-pen line today old setup w (λ z. absurd (omega (arith, e, z)))) ∙ q) r

    deed-on : (m : MachineT) (ram ws : List ℕ) (l : Left Input) (x : Deed) → Kept m ram ws x → Reaches (at s (world_of m ram ws) l)
        → Reaches (at s (world_of (machine_after x) (ram_after x) (words_after x)) (left_by_deed (slots ws₀) x l))
    deed-on m ram ws l (done x) k r =
        further r
        (record { by = calls (x ∷ []); apt = all-apt s m ram ws (x ∷ []) (k, tt); leads = played s (slots ws₀) m ram ws l (x ∷ []) (good (world_of m ram ws) l r).stretch (k, tt) })
    deed-on m ram ws l (pen line today old setup p ram' ws') k r =
        pen-on line today old setup (world_of m ram ws) (world_of p.machine ram' ws') p.number p.steps l k.0 r
        (ap (λ (a : Penned). a.number) k.1) (ap (λ (a : Penned). a.steps) k.1) (ap (λ (a : Penned). a.world) k.1)

    all-on : (m : MachineT) (ram ws : List ℕ) (l : Left Input) (xs : List Deed) → Chain m ram ws xs → Reaches (at s (world_of m ram ws) l)
        → Reaches (at s (last m ram ws xs) (left_by (slots ws₀) l xs))
    all-on m ram ws l [] ch r = r
    all-on m ram ws l (x ∷ xs) ch r =
        all-on (machine_after x) (ram_after x) (words_after x) (left_by_deed (slots ws₀) x l) xs ch.1 (deed-on m ram ws l x ch.0 r)

  pub demand3-pens : (m ws : List ℕ) (xs : List Deed) → Allowed m ws → Chain (started s) m ws xs → Demand3Pens s m ws xs
  demand3-pens m ws xs ok ch =
      let r = all-on m ws ok (started s) m ws (record { inputs = []; held = 0 }) xs ch (record { by = []; apt = tt; leads = refl }) in
      let f = rw r.leads at (plays s m ws ok r.by r.apt) in
      let q : stretch_of (ended s m ws xs) ≡ s = (good m ws ok (ended s m ws xs) _ r).stretch in
      record {
        state = f.state;
        held = f.held;
        refused = ap (λ (z : Stretch). (answer machine (journal_of z) check_of back (ended s m ws xs)).number) q ∙ f.refused;
      }

-- ---- a list of pens is such a chain: it ends where the rules' list ends, and tells what that tells
module _ (today old setup : List ℕ) where
  pub after-pens : (m : MachineT) (ram ws : List ℕ) (ps : List Line) → Chain m ram ws (deeds_of today old setup ps)
      → last m ram ws (deeds_of today old setup ps) ≡ after_pens (lines_of ps) today old setup (world_of m ram ws)
  unfolding after_pens
  after-pens m ram ws [] ch = refl
  after-pens m ram ws (p ∷ ps) ch =
      after-pens p.report.machine p.ram p.words ps ch.1
      ∙ ap (λ (a : Penned). after_pens (lines_of ps) today old setup a.world) (sym ch.0.1)

  pub told-pens : (m : MachineT) (ram ws : List ℕ) (ps : List Line) → Chain m ram ws (deeds_of today old setup ps)
      → reports_of ps ≡ pens_of (lines_of ps) today old setup (world_of m ram ws)
  unfolding pens_of
  told-pens m ram ws [] ch = refl
  told-pens m ram ws (p ∷ ps) ch =
      let a = report_as p.report p.ram p.words in
      ap (λ (t : List Penned). a ∷ t) (told-pens p.report.machine p.ram p.words ps ch.1)
      ∙ ap (λ (b : Penned). b ∷ pens_of (lines_of ps) today old setup b.world) (sym ch.0.1)

  -- each line's answer keeps the promise of a pen
  answers-chain : (ls : List (List ℕ)) → Within 16 setup → (m : MachineT) (ram ws : List ℕ)
      → Chain m ram ws (deeds_of today old setup (answers_of today old setup ls (world_of m ram ws)))
  unfolding answers_of
  answers-chain [] f m ram ws = tt
  answers-chain (l ∷ ls) f m ram ws =
      let a = pen_of l today old setup (world_of m ram ws) in
      ((f, refl), answers-chain ls f (report_from a).machine a.world.box.ram a.world.journal.words)

  lines_are : (ls : List (List ℕ)) (w : W) → lines_of (answers_of today old setup ls w) ≡ ls
  unfolding answers_of
  lines_are [] w = refl
  lines_are (l ∷ ls) w = ap (λ (t : List (List ℕ)). l ∷ t) (lines_are ls (pen_of l today old setup w).world)

  pub demand3-list : (s : Stretch) (m ws lines : List ℕ) → Allowed m ws → Within 16 setup → Demand3List s m ws lines today old setup
  demand3-list s m ws lines ok f =
      let ls = lines_in lines in
      let ps = answers_of today old setup ls (world_of (started s) m ws) in
      let c = answers-chain ls f (started s) m ws in
      record {
        demand = demand3-pens s m ws (deeds_of today old setup ps) ok c;
        after =
            after-pens (started s) m ws ps c
            ∙ ap (λ (t : List (List ℕ)). after_pens t today old setup (world_of (started s) m ws)) (lines_are ls (world_of (started s) m ws));
      }
