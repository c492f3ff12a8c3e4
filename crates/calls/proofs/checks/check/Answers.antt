use mathlib.Core.Path.{sym, ◌∙◌}
use borrow.Author.Tests.{le-leb, lt-leb}
use Rattle.calls.specs.Calls.{check_of}
use Rattle.calls.proofs.checks.check.Goals as goal

pub returns-then-not-ram_fits : goal.returns-then-not-ram_fits
unfolding check_of
returns-then-not-ram_fits c = rw (lt-leb _ _ c.if-not-ram_fits.true)

pub returns-then-not-journal_fits : goal.returns-then-not-journal_fits
unfolding check_of
returns-then-not-journal_fits c = rw (le-leb _ _ c.if-not-ram_fits.false, c.if-not-journal_fits.true)

pub returns-then-not-state_fits : goal.returns-then-not-state_fits
unfolding check_of
returns-then-not-state_fits c =
    rw (le-leb _ _ c.if-not-ram_fits.false, c.if-not-journal_fits.false, sym c.state_fits.ensures ∙ c.if-not-state_fits.true)

pub returns : goal.returns
unfolding check_of
returns c = rw (le-leb _ _ c.if-not-ram_fits.false, c.if-not-journal_fits.false, sym c.state_fits.ensures ∙ c.if-not-state_fits.false)
