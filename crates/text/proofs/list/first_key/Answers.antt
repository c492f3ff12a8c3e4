use Rattle.text.specs.Listing.{first_is_csr}
use Rattle.text.proofs.KeyTexts.{first_key}
use Rattle.text.proofs.list.first_key.Goals as goal

pub returns : goal.returns
returns c = rw c.operand.ensures.0 (first_key (first_is_csr c.args.code) c.args.n c.requires)
