use mathlib.Core.Path.{sym, ◌∙◌}
use Rattle.names.proofs.Keyed.{known_bytes}
use Rattle.names.proofs.Guesses.{register-unkeyed, register-found, register-missed}
use Rattle.names.proofs.register.Reg.from_name.Goals as goal

pub returns-in_err-key : goal.returns-in_err-key
returns-in_err-key c = c.from_residual.ensures ∙ register-unkeyed _ (sym c.in_err-key.ensures)

pub returns-then-register_key-key : goal.returns-then-register_key-key
returns-then-register_key-key c =
    c.from_number.ensures
    ∙ register-found _ (known_bytes _ c.type_inv.name) _ _ _ (sym c.in_ok-key.ensures) c.near-number.ensures c.register_key.ensures
    c.if-register_key-key.true

pub returns-else-register_key-key : goal.returns-else-register_key-key
returns-else-register_key-key c =
    c.fixed.ensures
    ∙ register-missed _ (known_bytes _ c.type_inv.name) _ _ _ (sym c.in_ok-key.ensures) c.near-number.ensures c.register_key.ensures
    c.if-register_key-key.false
