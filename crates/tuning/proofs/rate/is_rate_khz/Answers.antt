-- `tuning::rate::is_rate_khz` meets its contract: the rate in Hz is exact, and is put to the test of rates. Assumes nothing.
use mathlib.Core.Path.{sym, ap, ◌∙◌}
use lib.Ieee.{of_bits}
use Rattle.tuning.specs.Rate.{rate_answer}
use Rattle.tuning.proofs.Rates.{field-tested, given-khz, refused-rate}
use Rattle.tuning.proofs.rate.is_rate_khz.Goals as goal

pub returns-in-Some : goal.returns-in-Some
unfolding of_bits
returns-in-Some c =
    let asked = c.rate_khz in
    let khz = c.args.khz in
    sym (sym (field-tested khz c.row_known-1.given.fits) ∙ (given-khz _ _ (sym (ap rate_answer c.in-Some.is) ∙ asked.ensures)).0)

pub returns-in-None : goal.returns-in-None
unfolding of_bits
returns-in-None c =
    let asked = c.rate_khz in
    let khz = c.args.khz in
    sym (sym (field-tested khz c.row_known-1.given.fits) ∙ refused-rate _ (sym (ap rate_answer c.in-None.is) ∙ asked.ensures))
