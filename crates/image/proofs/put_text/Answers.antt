use native.Mathlib.Omega.{arith}
use Rattle.text.proofs.Fitting.{fitting, unfitting}
use Rattle.image.proofs.put_text.Goals as goal

pub returns-then-out-text : goal.returns-then-out-text
returns-then-out-text c = let a = c.args in
    let both = unfitting a.text.now a.out.now (omega (arith, c.if-out-text.true)) in record { result_value = both.0; out_after = both.1 }

pub returns : goal.returns
returns c = let a = c.args in
    let both = fitting a.text.now a.out.now _ _ (omega (arith, c.if-out-text.false)) (omega (arith, c.put.ensures.0)) c.put.ensures.1 in record { result_value = both.0; out_after = both.1 }
