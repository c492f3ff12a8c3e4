-- A list of pens, line by line.
use Prim.Native.Nat.{ℕ, ◌+◌, ◌-◌, ◌≤◌, ◌<◌}
use mathlib.Core.Path.{◌≡◌, sym, ◌∙◌, ap}
use mathlib.Core.List.{List}
use lib.ListN.{length, take, drop}
use Rattle.calls.specs.Calls.{W, world_of}
use Rattle.manifests.specs.Manifests.{lines}
use Rattle.manifests.specs.Code.{line_end}
use Rattle.manifests.proofs.Lined.{next-line, no_line}
use Rattle.pens.specs.Pen.{Penned, pen_of, after_pens}
use Rattle.pens.specs.Code.{report_as}
use Rattle.pens.specs.declared.Report.{Report}

module _ (s today last setup : List ℕ) where
  abbrev after : List (List ℕ) → W → W
  after ls w = after_pens ls today last setup w

  pub pen-next : (i e : ℕ) (w : W) (r : Report) (ram ws : List ℕ) → i < length s → e ≡ line_end s i
      → pen_of (take (e - i) (drop i s)) today last setup w ≡ report_as r ram ws → after (lines (drop (e + 1) s)) (world_of r.machine ram ws) ≡ after (lines (drop i s)) w
  unfolding after_pens
  pen-next i e w r ram ws h p q =
      ap (λ (a : Penned). after (lines (drop (e + 1) s)) a.world) (sym q) ∙ sym (ap (λ (ls : List (List ℕ)). after ls w) (next-line s i e h p))

  pub pens-done : (i : ℕ) (w : W) → length s ≤ i → after (lines (drop i s)) w ≡ w
  unfolding after_pens
  pens-done i w h = ap (λ (ls : List (List ℕ)). after ls w) (no_line s i h)
