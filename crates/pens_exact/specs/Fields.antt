-- The numbers of a pen's answer that the C boundary has a field of fixed width for. `proofs/Whole.antt` proves that each fits its field.
use Rattle.std.specs.Prelude.{◌≡◌}
use Rattle.word.specs.Word.{low_at}
use Rattle.crossing.specs.Crossing.{ending_number}
use Rattle.pens.specs.Pen.{Penned}

-- "Bits 0–15 the number .., bits 16–31 r0, bits 32–55 the run's bus bytes, bits 56–57 its cause": these bits are the whole numbers
pub record PenWhole (a : Penned) : Type 0 where
  pub number : low_at 16 a.number ≡ a.number
  pub r0 : low_at 16 a.r0 ≡ a.r0
  pub bus : low_at 24 a.bus ≡ a.bus
  pub cause : low_at 2 (ending_number a.ending) ≡ ending_number a.ending
