use Rattle.word.specs.Bits.{from_bits}
use Rattle.word.proofs.Reverse.{mask, swapped, swaps, reverses}
use Rattle.std.proofs.Common.{arith}
use Rattle.word.proofs.bits.rev.Goals as goal

-- the law at 16 bits: its four masks, computed, are the code's
pub returns : goal.returns
unfolding mask swapped swaps from_bits
returns c = reverses 4 c.args.a (omega arith)
