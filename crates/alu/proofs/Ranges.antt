-- Every value that the arithmetic unit gives is a word.
use Prim.Native.Nat.{ℕ, ◌<◌, ◌^◌}
use Rattle.word.proofs.Width.{plus-below, minus-below}
use Rattle.word.proofs.Digits.{below}
use Rattle.alu.specs.Unit.{alu_of, add_of, sub_of, logic_of, shl_of, shr_of, shra_of}
use Rattle.alu.specs.declared.AluOp.{AluOp}
use Rattle.alu.specs.declared.AluOp.TheVariants.{Add, And, Dec1, Dec2, Inc1, Inc2, Not, Or, Rev, Shl, Shr, Shra, Sub, Xor}

pub value-below : (op : AluOp) (d s : ℕ) → (alu_of op d s).value < 2 ^ 16
unfolding alu_of add_of sub_of logic_of shl_of shr_of shra_of
value-below Add d s = plus-below 16 d s
value-below And d s = below 16 _
value-below Dec1 d s = minus-below 16 s 1
value-below Dec2 d s = minus-below 16 s 2
value-below Inc1 d s = plus-below 16 s 1
value-below Inc2 d s = plus-below 16 s 2
value-below Not d s = below 16 _
value-below Or d s = below 16 _
value-below Rev d s = below 16 _
value-below Shl d s = below 16 _
value-below Shr d s = below 16 _
value-below Shra d s = below 16 _
value-below Sub d s = minus-below 16 d s
value-below Xor d s = below 16 _
