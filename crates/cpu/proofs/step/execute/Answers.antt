use Rattle.cpu.proofs.Steps.{is-illegal, is-alu, is-compare, is_move, is-load, is_store}
use Prim.Native.Nat.{◌/◌, ◌%◌}
use Rattle.cpu.proofs.step.execute.Goals as goal

pub returns-in-Illegal : goal.returns-in-Illegal
returns-in-Illegal c = is-illegal c.args.regs.now c.args.csrs.now c.args.b c.args.ram.now c.args.opcode (c.args.operands / 16)
    (c.args.operands % 16) _ _ _ _ _ _ c.in-Illegal.is c.raise.ensures c.quiet.ensures

pub returns-in-Alu : goal.returns-in-Alu
returns-in-Alu c = is-alu c.args.regs.now c.args.csrs.now c.args.b c.args.ram.now c.args.opcode (c.args.operands / 16)
    (c.args.operands % 16) _ _ _ _ _ _ c.in-Alu.is c.compute.ensures c.settle.ensures c.quiet-in-Alu.ensures

pub returns-in-Compare : goal.returns-in-Compare
returns-in-Compare c = is-compare c.args.regs.now c.args.csrs.now c.args.b c.args.ram.now c.args.opcode (c.args.operands / 16)
    (c.args.operands % 16) _ _ _ _ _ _ c.in-Compare.is c.compare.ensures c.settle-in-Compare.ensures c.quiet-in-Compare.ensures

pub returns-in-Move : goal.returns-in-Move
returns-in-Move c = is_move c.args.regs.now c.args.csrs.now c.args.b c.args.ram.now c.args.opcode (c.args.operands / 16)
    (c.args.operands % 16) _ _ _ _ _ _ _ c.in-Move.is c.transfer.ensures c.settle-in-Move.ensures c.quiet-in-Move.ensures

pub returns-in-Load : goal.returns-in-Load
returns-in-Load c = is-load c.args.regs.now c.args.csrs.now c.args.b c.args.ram.now c.args.opcode (c.args.operands / 16)
    (c.args.operands % 16) _ _ _ _ _ _ _ c.in-Load.is c.load-n.ensures.regs_after c.settle-in-Load.ensures c.quiet-in-Load.ensures

pub returns-in-Store : goal.returns-in-Store
returns-in-Store c = is_store c.args.regs.now c.args.csrs.now c.args.b c.args.ram.now c.args.opcode (c.args.operands / 16)
    (c.args.operands % 16) _ _ _ _ _ _ _ c.in-Store.is c.store-w.ensures.state_after c.settle-board.ensures
