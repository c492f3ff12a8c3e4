-- From a pen's own promise to that of the boundary.
use Prim.Native.Nat.{ℕ}
use mathlib.Core.Path.{◌≡◌, sym, ◌∙◌, ap}
use mathlib.Core.List.{List}
use borrow.Author.Tests.{eq-eqb, ne_eqb}
use Rattle.calls.specs.Calls.{world_of, replied}
use Rattle.calls.specs.declared.state.Machine.{Machine}
use Rattle.calls.specs.declared.state.Answer.TheVariants.{Accepted}
use Rattle.calls.specs.declared.state.Reply.{Reply}
use Rattle.boundary.specs.Boundary.{taken, packed, Crossed, leaves, crossed}
use Rattle.crossing.specs.Crossing.{ending_number}
use Rattle.pens.specs.Pen.{pen_of}
use Rattle.pens.specs.Code.{report_as}
use Rattle.pens.specs.declared.Report.{Report}
use Rattle.pen_crossing.specs.Crossing.{crossed_pen, CrossesPen}

abbrev result : Report → ℕ
result r = packed r.number r.r0 r.bus (ending_number r.ending)

abbrev accepted : Machine → Reply
accepted m = record { answer = Accepted; machine = m }

-- an answer, where it is refused and where it is accepted
module _ (w : List ℕ) (r : Report) (ram ws : List ℕ) (x : ℕ) (e : x ≡ result r) where
  pub kept : (r.number ≡ 0 → ⊥) → crossed_pen w (report_as r ram ws) ≡ leaves x w ram ws
  unfolding crossed_pen crossed
  kept h = rw (e, ne_eqb r.number 0 h)

  pub rewritten : (y : ℕ) (w' : List ℕ) → r.number ≡ 0 → crossed w (replied (accepted r.machine) ram ws) ≡ leaves y w' ram ws
      → crossed_pen w (report_as r ram ws) ≡ leaves x w' ram ws
  unfolding crossed_pen crossed
  rewritten y w' z c = rw (e, eq-eqb r.number 0 z) (ap (λ (t : Crossed). leaves (result r) t.words ram ws) c)

-- words to machine, the pen, machine to words
pub crosses : (line today last setup w ram ws : List ℕ) (m : Machine) (r : Report) (x : ℕ) (w' ram' ws' : List ℕ) → m ≡ taken w
    → pen_of line today last setup (world_of m ram ws) ≡ report_as r ram' ws' → crossed_pen w (report_as r ram' ws') ≡ leaves x w' ram' ws'
    → CrossesPen line today last setup w ram ws x w' ram' ws'
crosses line today last setup w ram ws m r x w' ram' ws' em k e =
    ap (λ (y : Machine). crossed_pen w (pen_of line today last setup (world_of y ram ws))) (sym em) ∙ ap (crossed_pen w) k ∙ e
