-- The fields of a pen's result hold its numbers whole: its refusal is of the table, r0 a word, and bus bytes are those of a watched run.
use Prim.Native.Nat.{ℕ, zero, suc, ◌+◌, ◌≤◌}
use mathlib.Core.Path.{◌≡◌, refl, sym, ◌∙◌, ap, subst}
use mathlib.Core.Bool.{true, cond}
use mathlib.Core.List.{List, [], ◌∷◌}
use native.Mathlib.Omega.{arith}
use lib.Dec.{leb}
use lib.ListN.{length}
use Rattle.word.specs.Word.{low_at}
use Rattle.bus.specs.Good.{Within}
use Rattle.bus.proofs.Kept.{picked}
use Rattle.calls.specs.Calls.{W, check_of, stretch_of}
use Rattle.entries.specs.Entries.{entry}
use Rattle.watching.specs.Watched.{goes}
use Rattle.watching.specs.declared.Ending.{Ending}
use Rattle.watching.specs.declared.Ending.TheVariants.{Refused, Budget, Halted, Watch, Break}
use Rattle.watching.proofs.Beside.{goes-runs}
use Rattle.watched.specs.Answer.{Watched, or_else}
use Rattle.crossing.specs.Crossing.{ending_number}
use Rattle.utf8.specs.Latin.{judged_of}
use Rattle.std.specs.Prelude.{Option, Some, None, Result, Ok, Err}
use Rattle.utf8.specs.declared.Unfit.{Unfit}
use Rattle.utf8.specs.declared.Unfit.TheVariants.{NotUtf8, NotLatin}
use Rattle.manifests.specs.Manifests.{held_of}
use Rattle.manifests.specs.declared.Held.{Held}
use Rattle.pens.specs.Pen.{address_in, stop_in, budget_in, given_in, all_registers, preparing, made, matching, judged_check, name_check, first_check, pen_check}
use Rattle.pens.specs.Pen.{reported, unless_refused, pen_named, pen_of}
use Rattle.exact.proofs.Counts.{check-small}
use Rattle.exact.proofs.Whole.{watched-whole}
use Rattle.pens_exact.specs.Cut.{Typed}
use Rattle.pens_exact.specs.Nights.{named}
use Rattle.pens_exact.specs.Fields.{PenWhole}
use Rattle.pens_exact.proofs.Passing.{Passing, runs_on}
use Rattle.pens_exact.proofs.Accepted.{run-told, pen-go}

-- ---- a refusal of the table
abbrev InTable : ℕ → Type 0
InTable n = n ≤ 83

judged-small : (j : Result ℕ Unfit) (at ram : ℕ) → InTable (judged_check j at ram)
unfolding judged_check
judged-small (Err NotUtf8) at ram = omega arith
judged-small (Err NotLatin) at ram = omega arith
judged-small (Ok n) at ram = picked InTable (leb (at + (n + 1)) ram) (omega arith) (omega arith)

name-small : (h : Option Held) (j : Result ℕ Unfit) (at ram : ℕ) → InTable (name_check h j at ram)
unfolding name_check
name-small (Some h) j at ram = judged-small j at ram
name-small None j at ram = omega arith

first_small : (a b : ℕ) → InTable a → InTable b → InTable (or_else a b)
first_small zero b f g = g
first_small (suc a) b f g = f

check-in-table : (h : Option Held) (j : Result ℕ Unfit) (setup : List ℕ) (w : W) → InTable (pen_check h j setup w)
check-in-table h j setup w =
    first_small (first_check setup w) (name_check h j (address_in setup) (length w.box.ram))
    (first_small (check_of w) (cond (all_registers (given_in setup)) 0 6) (omega (arith, check-small w))
    (picked InTable (all_registers (given_in setup)) (omega arith) (omega arith)))
    (name-small h j (address_in setup) (length w.box.ram))

-- ---- the cause
cause-whole : (c : Ending) → low_at 2 (ending_number c) ≡ ending_number c
cause-whole Refused = refl
cause-whole Budget = refl
cause-whole Halted = refl
cause-whole Watch = refl
cause-whole Break = refl

-- ---- the machine that a run leaves
run-passes : (setup : List ℕ) (w : W) → Passing w → Passing (matching setup w).world
run-passes setup w p =
    let s = goes (budget_in setup) true (entry (stop_in setup) 1 0 ∷ []) w in
    subst Passing ((goes-runs (stretch_of w) (budget_in setup) true (entry (stop_in setup) 1 0 ∷ []) w).world ∙ ap (λ (a : Watched). a.world) (sym (run-told setup w p)))
    (runs_on (stretch_of w) s.steps w p)

named-whole : (h : Option Held) (name setup : List ℕ) (w : W) → Typed w.box.cpu w.box.ram → Within 16 setup → PenWhole (pen_named h name setup w)
unfolding pen_named
named-whole h name setup w y f = go (pen_check h (judged_of name) setup w) refl
  where
    ready : W
    ready = made (preparing setup name) w

    go : (k : ℕ) → pen_check h (judged_of name) setup w ≡ k → PenWhole (unless_refused k h w (reported h (matching setup ready)))
    go zero e =
        let p = run-passes setup ready (pen-go h name setup w (stretch_of w) refl f y e).passing in
        let few : budget_in setup ≤ 65535 = omega (arith, f.at 2) in
        record {
          number = refl;
          r0 = omega (arith, p.good.cpu.regs.words.at 0);
          bus = (watched-whole (budget_in setup) (entry (stop_in setup) 1 0 ∷ []) ready few).bus;
          cause = cause-whole (matching setup ready).ending;
        }
    go (suc k) e = record { number = omega (arith, check-in-table h (judged_of name) setup w, e); r0 = refl; bus = refl; cause = refl }

pub pen-whole : (line today last setup : List ℕ) (w : W) → Typed w.box.cpu w.box.ram → Within 16 setup → PenWhole (pen_of line today last setup w)
unfolding pen_of
pen-whole line today last setup w y f = named-whole (held_of line today last) (named line today last) setup w y f
