use mathlib.Core.Path.{sym, ◌∙◌}
use Rattle.names.proofs.Keyed.{known_bytes}
use Rattle.names.proofs.Guesses.{csr-unkeyed, csr-found, csr-missed}
use Rattle.names.proofs.register.Csr.from_name.Goals as goal

pub returns-in_err-key : goal.returns-in_err-key
returns-in_err-key c = c.from_residual.ensures ∙ csr-unkeyed _ (sym c.in_err-key.ensures)

pub returns-then-csr_key-key : goal.returns-then-csr_key-key
returns-then-csr_key-key c =
    c.from_number.ensures
    ∙ csr-found _ (known_bytes _ c.type_inv.name) _ _ _ (sym c.in_ok-key.ensures) c.near-number.ensures c.csr_key.ensures
    c.if-csr_key-key.true

pub returns-else-csr_key-key : goal.returns-else-csr_key-key
returns-else-csr_key-key c =
    csr-missed _ (known_bytes _ c.type_inv.name) _ _ _ (sym c.in_ok-key.ensures) c.near-number.ensures c.csr_key.ensures
    c.if-csr_key-key.false
