use Rattle.std.proofs.Common.{◌≡◌, ℕ, List, ap, refl, ◌∙◌, arith, take, replicate}
use lib.ListN.{length-take}
use Rattle.text.specs.Answer.{accepted}
use Rattle.text.specs.Assembling.{assemble_says}
use Rattle.text.proofs.Returning.{seen, sixteen, returned, caught, never, same, err_is}
use Rattle.text.proofs.trip.round_trip.Goals as goal
use Rattle.text.proofs.trip.round_trip.Goals.{In_ok-n}

-- the text that was listed gives the word
back : (c : In_ok-n) → assemble_says (take c.in_ok-n.n c.list.new.out) ≡ accepted c.args.word
back c =
    let w = c.args.word in
    ap (λ (l : List ℕ). assemble_says (take c.in_ok-n.n l)) c.in_ok-n.ensures.out_after
    ∙ returned w c.in_ok-n.n (replicate 16 0) (omega arith) refl (seen w 16 _ c.in_ok-n.ensures.result_value)

pub returns-in_err-n : goal.returns-in_err-n
returns-in_err-n c = err_is _ _ c.from_residual.ensures.1 ∙ caught c.args.word c.in_err-n.field-0.0 (omega arith) c.in_err-n.ensures.result_value

pub slice_bounds-text-end : goal.slice_bounds-text-end
slice_bounds-text-end c =
    let s = seen c.args.word 16 _ c.in_ok-n.ensures.result_value in
    omega (arith, s.whole, sixteen c.args.word (omega arith), c.list.auto.out)

pub slice_bounds-assemble-end : goal.slice_bounds-assemble-end
slice_bounds-assemble-end c =
    let s = seen c.args.word 16 _ c.in_ok-n.ensures.result_value in
    omega (arith, s.whole, sixteen c.args.word (omega arith), c.list.auto.out, length-take {A = ℕ})

pub returns-in_err-assemble : goal.returns-in_err-assemble
returns-in_err-assemble c = never c.args.word c.in_err-assemble.field-0.0 (c.in_err-assemble.ensures ∙ back (goal.at.returns-in_err-assemble c).In_ok-n)

pub returns : goal.returns
returns c =
    let s = seen c.args.word 16 _ c.in_ok-n.ensures.result_value in
    same c.args.word _ s.legal (c.in_ok-assemble.ensures ∙ back (goal.at.returns c).In_ok-n)
