use native.Mathlib.Omega.{arith}
use borrow.Author.Rules.{rules}
use Rattle.alu.proofs.LastOut.{over}
use Rattle.alu.proofs.last_left.Goals as goal

pub returns : goal.returns
returns c = over 32 16 c.args.a c.args.n (omega arith) (omega arith) (search rules)
