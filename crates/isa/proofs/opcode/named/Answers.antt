use mathlib.Core.Path.{sym, ◌∙◌}
use Rattle.names.proofs.Keyed.{known_bytes}
use Rattle.isa.proofs.Tables.{told, tells-name}
use Rattle.isa.proofs.Guesses.{opcode-unkeyed, opcode-told}
use Rattle.isa.proofs.opcode.named.Goals as goal

pub returns-in_err-key : goal.returns-in_err-key
returns-in_err-key c = c.from_residual.ensures ∙ opcode-unkeyed _ (sym c.in_err-key.ensures)

pub returns : goal.returns
returns c =
    let h = c.likely-opcode.type_inv in
    let m = c.mnemonic.ensures ∙ tells-name _ told _ h in
    c.then_some.ensures
    ∙ opcode-told _ (known_bytes _ c.type_inv.name) _ _ _ (sym c.in_ok-key.ensures) h c.likely-opcode.ensures m
