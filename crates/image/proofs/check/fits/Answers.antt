-- `check::fits` meets its contract: on an idle bus, and on any other.
-- Rests on Running.
use Rattle.std.proofs.Common.{sym, ◌∙◌}
use Rattle.image.proofs.Running.{idle, running, not_running}
use Rattle.image.proofs.check.fits.Goals as goal

pub returns-then-wrong-eq0 : goal.returns-then-wrong-eq0
returns-then-wrong-eq0 c =
    let wrong = c.wrong_bits-wrong in
    c.rest_fits.ensures ∙ idle c.args.image.now c.fits-image wrong.result wrong.ensures.core wrong.ensures.bus c.if-wrong-eq0.true

pub returns-then-cycle_fits : goal.returns-then-cycle_fits
returns-then-cycle_fits c =
    let wrong = c.wrong_bits-wrong in
    c.rest_fits-then-cycle_fits.ensures
    ∙ running c.args.image.now c.fits-image wrong.result wrong.ensures.core wrong.ensures.bus (sym c.cycle_fits.ensures ∙ c.if-cycle_fits.true)

pub returns-else-cycle_fits : goal.returns-else-cycle_fits
returns-else-cycle_fits c =
    let wrong = c.wrong_bits-wrong in
    c.if-cycle_fits.false
    ∙ not_running c.args.image.now c.fits-image wrong.result wrong.ensures.core wrong.ensures.bus (sym c.cycle_fits.ensures ∙ c.if-cycle_fits.false)
