use Rattle.text.specs.Listing.{second_is_csr}
use Rattle.text.proofs.KeyTexts.{second_key}
use Rattle.text.proofs.list.second_key.Goals as goal

pub returns : goal.returns
returns c = rw c.operand.ensures.0 (second_key (second_is_csr c.args.code) c.args.n c.requires)
