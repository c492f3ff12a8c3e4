use Rattle.machine.specs.Asked.{asked}
use Rattle.machine.specs.declared.Call.{Call}
use borrow.Author.Rules.{rules}
use native.Mathlib.Omega.{arith}
use mathlib.Core.Path.{refl, sym, ◌∙◌, ap}
use mathlib.Core.List.{List}
use Prim.Native.Nat.{ℕ}
use Rattle.calls.specs.Calls.{world_of, answer_of}
use Rattle.pens.specs.Pen.{all_registers, settings, made}
use Rattle.pens.proofs.Given.{all_here, settings-turn, settings-done}
use Rattle.pens.proofs.giving.give.Goals as goal

pub loop-rest-init : goal.loop-rest-init
loop-rest-init c = (refl, refl, ap all_registers c.given-rest.ensures ∙ c.requires, ap (λ (s : List ℕ). made (settings s) (world_of c.args.m c.args.ram.now c.args.journal.now)) c.given-rest.ensures)

pub loop-rest-preserved : goal.loop-rest-preserved
loop-rest-preserved c = let k = c.make-after in
    let n = c.in-len2-up.len_at_least in
    let q = k.ensures ∙ ap (λ (x : Call). (answer_of (asked x) (world_of c.loop-rest.after c.loop-rest.ram c.loop-rest.journal)).world)
    c.numbered.ensures in
    let h = all_here c.loop-rest.rest.now n c.loop-rest.invariant.2 in
    (search rules, search rules, h.1, settings-turn c.loop-rest.rest.now _ _ n c.loop-rest.invariant.2 q ∙ c.loop-rest.invariant.3)

pub returns : goal.returns
returns c = sym (settings-done c.loop-rest.rest.now _ (omega (arith, c.in_default.len_below))) ∙ c.loop-rest.invariant.3
