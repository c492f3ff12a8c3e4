-- The parts of a pen, one after another.
use Prim.Native.Nat.{ℕ}
use mathlib.Core.Path.{◌≡◌, sym, ◌∙◌, ap}
use mathlib.Core.List.{List, [], ◌∷◌, ◌++◌}
use Rattle.calls.specs.Calls.{W}
use Rattle.entries.specs.Entries.{entry}
use Rattle.entries.specs.declared.Entry.{Entry}
use Rattle.watched.specs.Answer.{watched_of}
use Rattle.watched.specs.Code.{answer_as}
use Rattle.watched.specs.declared.Watched.{Watched as WatchedT}
use Rattle.utf8.specs.Latin.{latin_of}
use Rattle.std.specs.Prelude.{Option}
use Rattle.manifests.specs.Manifests.{name_of}
use Rattle.manifests.specs.Code.{HeadsOf, held_from}
use Rattle.manifests.specs.declared.Held.{Held}
use Rattle.manifests.proofs.Heads.{headed-held}
use Rattle.pens.specs.Pen.{address_in, stop_in, budget_in, given_in, settings, pokings, preparing, made, matching, Penned, reported, pen_named, pen_of}
use Rattle.pens.specs.Code.{pen_from, report_as, report_of}
use Rattle.pens.specs.declared.Report.{Report}
use Rattle.pens.proofs.Given.{made-append}

pub prepares : (setup name : List ℕ) (w v u : W) (at : ℕ) → at ≡ address_in setup → v ≡ made (pokings at (latin_of name ++ (0 ∷ []))) w
    → u ≡ made (settings (given_in setup)) v → u ≡ made (preparing setup name) w
prepares setup name w v u at e p q =
    q ∙ ap (made (settings (given_in setup))) (p ∙ ap (λ (a : ℕ). made (pokings a (latin_of name ++ (0 ∷ []))) w) e)
    ∙ sym (made-append (pokings (address_in setup) (latin_of name ++ (0 ∷ []))) (settings (given_in setup)) w)

pub runs : (h : Option Held) (setup : List ℕ) (w : W) (stop budget : ℕ) (r : WatchedT) (x : Report) (ram ws : List ℕ) (l : List Entry)
    → stop ≡ stop_in setup → budget ≡ budget_in setup → watched_of budget (entry stop 1 0 ∷ []) w ≡ answer_as r ram ws l → x ≡ report_of h r
    → reported h (matching setup w) ≡ report_as x ram ws
runs h setup w stop budget r x ram ws l e f q p =
    ap (λ (s : ℕ). reported h (watched_of (budget_in setup) (entry s 1 0 ∷ []) w)) (sym e)
    ∙ ap (λ (b : ℕ). reported h (watched_of b (entry stop 1 0 ∷ []) w)) (sym f)
    ∙ ap (reported h) q ∙ ap (λ (y : Report). report_as y ram ws) (sym p)

-- a pen by its line, from the look-up
pub by-line : (line today heads last more setup : List ℕ) (w : W) (h : Option Held) (name : List ℕ) (a : Penned) → h ≡ held_from line today heads last more
    → name ≡ name_of today last h → pen_named h name setup w ≡ a → pen_from line today heads last more setup w ≡ a
unfolding pen_from
by-line line today heads last more setup w h name a e f q =
    ap (λ (k : Option Held). pen_named k (name_of today last k) setup w) (sym e) ∙ ap (λ (n : List ℕ). pen_named h n setup w) (sym f) ∙ q

-- with the manifests' own heads it is the pen of the rules
pub headed-pen : (line today heads last more setup : List ℕ) (w : W) → HeadsOf today heads → HeadsOf last more
    → pen_of line today last setup w ≡ pen_from line today heads last more setup w
unfolding pen_of pen_from
headed-pen line today heads last more setup w e f =
    ap (λ (k : Option Held). pen_named k (name_of today last k) setup w) (sym (headed-held line today heads last more e f))
