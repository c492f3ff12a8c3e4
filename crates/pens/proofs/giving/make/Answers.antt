use mathlib.Core.Path.{sym, ◌∙◌, ap}
use Rattle.bus.specs.declared.state.Cpu.{Cpu}
use Rattle.history.specs.Trace.{Answer}
use Rattle.history.specs.Ring.{Ring}
use Rattle.calls.specs.Calls.{world_of}
use Rattle.pens.proofs.Given.{world-said}
use Rattle.pens.proofs.giving.make.Goals as goal

pub returns : goal.returns
returns c = let k = c.answer-r in
    sym (world-said k.result.answer (world_of k.result.machine _ _)) ∙ sym (ap (λ (a : Answer Cpu Ring). a.world) k.ensures)
