use mathlib.Core.Bool.{true, false}
use native.Mathlib.Omega.{arith}
use borrow.Author.Rules.{rules}
use Rattle.text.proofs.KeyTexts.{operand_small}
use Rattle.text.proofs.list.operand.Goals as goal

pub returns-then-is_csr : goal.returns-then-is_csr
returns-then-is_csr c = (search rules, omega (arith, operand_small true c.args.n c.requires, c.name.ensures))

pub returns-else-is_csr : goal.returns-else-is_csr
returns-else-is_csr c = (search rules, omega (arith, operand_small false c.args.n c.requires, c.name-else-is_csr.ensures))
