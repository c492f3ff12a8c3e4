use Rattle.isa.proofs.Tables.{told}
use Rattle.isa.proofs.opcode.table.Goals as goal

pub returns : goal.returns
returns c = told
