use Rattle.std.proofs.Common.{refl}
use mathlib.Core.Bool.{xor}
use Rattle.word.proofs.choice.unlike.Goals as goal

pub returns : goal.returns
unfolding xor
returns c = refl
