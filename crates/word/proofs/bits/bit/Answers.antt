use Rattle.std.proofs.Common.{◌^◌, ◌<◌, lt_of_lt_of_le, arith, pow_mono, le-ltb}
use native.Mathlib.Nat.{div-eq_of_lt}
use Rattle.word.proofs.bits.bit.Goals as goal

pub returns-else-i-lt16 : goal.returns-else-i-lt16
returns-else-i-lt16 c =
    let h : c.args.w < 2 ^ 16 = omega arith in
    rw (le-ltb c.args.i 16 c.if-i-lt16.false, div-eq_of_lt (lt_of_lt_of_le h (pow_mono c.if-i-lt16.false)))
