-- `outage::report::report_restart` meets its contract. Assumes nothing.
use mathlib.Core.Path.{ap, ◌∙◌}
use Prim.Native.Nat.{ℕ}
use Rattle.sequence.specs.declared.SeqEvent.TheVariants.{Restart}
use Rattle.model.specs.Rules.{pending_after}
use Rattle.model.specs.Hearing.{counted}
use Rattle.model.specs.Parts.{with_discontinuity}
use Rattle.outage.specs.Report.{report_of}
use Rattle.outage.proofs.Reports.{reported}
use Rattle.outage.proofs.report.report_restart.Goals as goal

pub returns : goal.returns
unfolding pending_after counted
returns c = let a = c.args in
    reported a.rate Restart c.restart_missing-missing.result a.pending.now a.health.now _ _ (ap (with_discontinuity a.pending.now) c.add_pending.ensures) c.record_gap.ensures
    ∙ ap (λ (m : ℕ). report_of a.rate Restart m a.pending.now a.health.now) c.restart_missing-missing.ensures
