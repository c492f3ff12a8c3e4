use mathlib.Core.Path.{◌≡◌, sym, ◌∙◌}
use native.Mathlib.Omega.{arith}
use Rattle.image.specs.Image.{header_of}
use Rattle.std.specs.Prelude.{Some}
use Rattle.image.proofs.Pieces.{rest-whole}
use Rattle.image.proofs.Whole.{says-bad, says-long, says_past, says-lines, header-long}
use Rattle.image.proofs.listing.Goals as goal
use Rattle.image.proofs.listing.Goals.{In-Some}

-- where a header was read, it is the input's
header-a : (c : In-Some) → header_of c.args.input.now ≡ Some c.in-Some.a
header-a c = sym c.read_header.ensures ∙ c.in-Some.is

pub returns-in_default : goal.returns-in_default
returns-in_default c = record { result_value = rw (says-bad c.args.input.now (sym c.read_header.ensures ∙ c.in_default.is)) c.put_text.ensures.result_value; out_after = rw (says-bad c.args.input.now (sym c.read_header.ensures ∙ c.in_default.is)) c.put_text.ensures.out_after }

pub returns-then-input-gt60005 : goal.returns-then-input-gt60005
returns-then-input-gt60005 c = record { result_value = rw (says-long _ _ (header-a (goal.at.returns-then-input-gt60005 c).In-Some) (omega (arith, c.if-input-gt60005.true))) c.put_text-then-input-gt60005.ensures.result_value; out_after = rw (says-long _ _ (header-a (goal.at.returns-then-input-gt60005 c).In-Some) (omega (arith, c.if-input-gt60005.true))) c.put_text-then-input-gt60005.ensures.out_after }

pub returns-then-a-input : goal.returns-then-a-input
returns-then-a-input c = record { result_value = rw (says_past _ _ (header-a (goal.at.returns-then-a-input c).In-Some) (omega (arith, c.if-a-input.true))) c.put_text-then-a-input.ensures.result_value; out_after = rw (says_past _ _ (header-a (goal.at.returns-then-a-input c).In-Some) (omega (arith, c.if-a-input.true))) c.put_text-then-a-input.ensures.out_after }

pub slice_bounds-put_image-count : goal.slice_bounds-put_image-count
slice_bounds-put_image-count c = omega (arith, header-long _ _ (header-a (goal.at.slice_bounds-put_image-count c).In-Some))

pub slice_bounds-put_image-start : goal.slice_bounds-put_image-start
slice_bounds-put_image-start c = omega (arith, header-long _ _ (header-a (goal.at.slice_bounds-put_image-start c).In-Some))

pub returns : goal.returns
returns c = let h = header-a (goal.at.returns c).In-Some in
    let l = header-long _ _ h in
    let s = c.args.input.now in
    record { result_value = rw (says-lines s _ h (omega (arith, c.if-input-gt60005.false)) (omega (arith, c.if-a-input.false)), ← rest-whole s 5) c.put_image.ensures.result_value; out_after = rw (says-lines s _ h (omega (arith, c.if-input-gt60005.false)) (omega (arith, c.if-a-input.false)), ← rest-whole s 5) c.put_image.ensures.out_after }
