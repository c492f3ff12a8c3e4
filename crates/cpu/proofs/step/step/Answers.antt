use Rattle.cpu.proofs.Steps.{interrupts, fetches}
use mathlib.Core.Path.{◌∙◌}
use native.Mathlib.Omega.{arith}
use Rattle.isa.proofs.Tables.{tells-op}
use Rattle.cpu.proofs.step.step.Goals as goal

pub returns-then-due : goal.returns-then-due
returns-then-due c tells = let a = c.args in
    interrupts a.regs.now a.csrs.now a.b a.ram.now _ _ _ c.due.ensures c.if-due.true c.enter.ensures
    c.quiet.ensures

pub returns : goal.returns
returns c tells = let a = c.args in
    fetches a.regs.now a.csrs.now a.b a.ram.now _ _ _ _ _ _ _ c.due.ensures c.if-due.false c.read_byte-first.ensures
    c.plus.ensures c.read_byte-second.ensures c.plus-2.ensures (c.decode.ensures ∙ tells-op _ tells _ (omega (arith, c.read_byte-first.type_inv)))
    c.execute.ensures
