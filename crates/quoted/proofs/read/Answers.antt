use mathlib.Core.Path.{sym, ◌∙◌}
use Rattle.quoted.specs.Quoted.{meant}
use Rattle.quoted.specs.declared.Mode.TheVariants.{Plain}
use Rattle.quoted.proofs.Turns.{faulty, no_room, with-room}
use Rattle.quoted.proofs.read.Goals as goal

pub returns-in_default : goal.returns-in_default
returns-in_default c = let a = c.args in
    let both = faulty 0 a.out.now (meant a.quote Plain a.text.now) (sym c.count.ensures ∙ c.in_default.is) in record { value = both.0; out_after = both.1 }

pub returns-then-out-n : goal.returns-then-out-n
returns-then-out-n c = let a = c.args in
    let both = no_room _ a.out.now (meant a.quote Plain a.text.now) (sym c.count.ensures ∙ c.in-Some.is) c.if-out-n.true in record { value = both.0; out_after = both.1 }

pub returns : goal.returns
returns c = let a = c.args in
    let both = with-room _ a.out.now (meant a.quote Plain a.text.now) _ (sym c.count.ensures ∙ c.in-Some.is) c.if-out-n.false c.put.ensures in record { value = both.0; out_after = both.1 }
