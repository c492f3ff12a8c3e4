use Rattle.text.specs.Listing.{first_is_csr, second_is_csr}
use Rattle.text.proofs.Operands.{small}
use Rattle.text.proofs.assemble.assemble_words.Goals as goal

pub encode-requires : goal.encode-requires
encode-requires c =
    let d = small (first_is_csr c.in_ok-code.code) c.args.d.now c.find_operand.ensures in
    let s = small (second_is_csr c.in_ok-code.code) c.args.s.now c.find_operand-2.ensures in
    (rw c.in_ok-d.ensures.ok_part at d, rw c.in_ok-s.ensures.ok_part at s)
