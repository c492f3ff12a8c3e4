use Rattle.std.proofs.Common.{arith}
use Rattle.grammar.specs.Line.{blank}
use Rattle.grammar.proofs.Scan.{tail, run_inside}
use Rattle.grammar.proofs.line.skip_blanks.Goals as goal

pub overflow_add-result : goal.overflow_add-result
overflow_add-result c =
    let l = c.args.line.now in
    let e = rw (tail l c.args.at) at c.count_blanks.ensures in
    omega (arith, e, run_inside blank l c.args.at c.requires)

pub returns : goal.returns
returns c =
    let l = c.args.line.now in
    let e = rw (tail l c.args.at) at c.count_blanks.ensures in
    (omega (arith, e), omega (arith, e, run_inside blank l c.args.at c.requires))
