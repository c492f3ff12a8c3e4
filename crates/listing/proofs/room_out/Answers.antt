use Rattle.std.proofs.Common.{ℕ, sym}
use Rattle.std.proofs.lemmas.List.{length-replicate}
use Rattle.listing.proofs.room_out.Goals as goal

pub returns : goal.returns
returns c = sym (length-replicate {0} {A = ℕ} 840000 0)
