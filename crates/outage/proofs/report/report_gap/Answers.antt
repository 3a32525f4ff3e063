-- `outage::report::report_gap` meets its contract: what it misses is the last fact of each branch. Assumes nothing.
use mathlib.Core.Path.{ap, ◌∙◌}
use native.Mathlib.Omega.{arith}
use Rattle.base.proofs.Tests.{was}
use Rattle.health.specs.Counters.{count_gap}
use Rattle.model.specs.Hearing.{counted}
use Rattle.model.specs.Parts.{with_missing, with_discontinuity}
use Rattle.outage.proofs.Reports.{gap-short, gap-long}
use Rattle.outage.proofs.report.report_gap.Goals as goal

pub returns-then-below_half : goal.returns-then-below_half
unfolding counted
returns-then-below_half c = let a = c.args in
    gap-short a.rate a.k a.pending.now a.health.now _ _ _ (c.record_gap.ensures ∙ ap count_gap c.record_dropped.ensures)
    (ap (with_missing a.pending.now) c.add_pending.ensures) (was c.below_half.ensures c.if-below_half.true) (omega arith)

pub returns-else-below_half : goal.returns-else-below_half
unfolding counted
returns-else-below_half c = let a = c.args in
    gap-long a.rate a.k a.pending.now a.health.now _ _ _ (c.record_gap.ensures ∙ ap count_gap c.record_dropped.ensures)
    (ap (with_discontinuity a.pending.now) c.add_pending-else-below_half.ensures) (was c.below_half.ensures c.if-below_half.false) (omega arith)
