use Rattle.std.proofs.Common.{◌∙◌, inl, inr, arith, ◌-◌, ◌<◌, length}
use Rattle.utf8.specs.Code.{low_after, high_after}
use Rattle.utf8.proofs.Leads.{two, three, four, few, enough, is-low, is-high}
use Rattle.utf8.proofs.longer.Goals as goal

pub returns-in_err-get-in-194-to-223 : goal.returns-in_err-get-in-194-to-223
returns-in_err-get-in-194-to-223 c =
    let x = c.args.lead in
    let s = c.args.rest.now in
    let q : length s < 1 = elim c.in_err-get-in-194-to-223.ensures.lookup.0 [ inl l ↦ absurd (omega arith) | inr l ↦ l ] in
    c.from_residual.ensures ∙ few x s 1 (x - 0xc0) 0x80 0xbf (two x (omega arith) (omega arith)) q

pub returns-in_ok-get-in-194-to-223 : goal.returns-in_ok-get-in-194-to-223
returns-in_ok-get-in-194-to-223 c =
    let x = c.args.lead in
    let s = c.args.rest.now in
    let lent = c.in_ok-get-in-194-to-223 in
    let here = enough x s 1 (x - 0xc0) 0x80 0xbf (two x (omega arith) (omega arith)) lent.field-0.now lent.ensures.lookup.0.2 lent.ensures.lookup.0.1 in
    c.followed.ensures ∙ here

pub returns-in_err-get-in-224-to-239 : goal.returns-in_err-get-in-224-to-239
returns-in_err-get-in-224-to-239 c =
    let x = c.args.lead in
    let s = c.args.rest.now in
    let q : length s < 2 = elim c.in_err-get-in-224-to-239.ensures.lookup.0 [ inl l ↦ absurd (omega arith) | inr l ↦ l ] in
    c.from_residual-in_err-get-in-224-to-239.ensures ∙ few x s 2 (x - 0xe0) (low_after x) (high_after x) (three x (omega arith) (omega arith)) q

pub returns-in_ok-get-in-224-to-239 : goal.returns-in_ok-get-in-224-to-239
returns-in_ok-get-in-224-to-239 c =
    let x = c.args.lead in
    let s = c.args.rest.now in
    let lent = c.in_ok-get-in-224-to-239 in
    let here = enough x s 2 (x - 0xe0) (low_after x) (high_after x) (three x (omega arith) (omega arith)) lent.field-0.now lent.ensures.lookup.0.2 lent.ensures.lookup.0.1 in
    c.followed-in-224-to-239.ensures ∙ rw (c.low_after-low.ensures.value, c.high_after-high.ensures.value) here

pub returns-in_err-get-in-240-to-244 : goal.returns-in_err-get-in-240-to-244
returns-in_err-get-in-240-to-244 c =
    let x = c.args.lead in
    let s = c.args.rest.now in
    let q : length s < 3 = elim c.in_err-get-in-240-to-244.ensures.lookup.0 [ inl l ↦ absurd (omega arith) | inr l ↦ l ] in
    c.from_residual-in_err-get-in-240-to-244.ensures ∙ few x s 3 (x - 0xf0) (low_after x) (high_after x) (four x (omega arith) (omega arith)) q

pub returns-in_ok-get-in-240-to-244 : goal.returns-in_ok-get-in-240-to-244
returns-in_ok-get-in-240-to-244 c =
    let x = c.args.lead in
    let s = c.args.rest.now in
    let lent = c.in_ok-get-in-240-to-244 in
    let here = enough x s 3 (x - 0xf0) (low_after x) (high_after x) (four x (omega arith) (omega arith)) lent.field-0.now lent.ensures.lookup.0.2 lent.ensures.lookup.0.1 in
    c.followed-in-240-to-244.ensures ∙ rw (c.low_after-low.ensures.value, c.high_after-high.ensures.value) here

pub returns-in_default : goal.returns-in_default
returns-in_default c = is-low c.args.lead c.args.rest.now (omega arith) (omega arith)

pub returns-in_default-2 : goal.returns-in_default-2
returns-in_default-2 c = is-high c.args.lead c.args.rest.now (omega arith)
