-- `outage::report::report_event` meets its contract: by the event. Assumes nothing.
use Rattle.model.specs.Gives.{incoming_of}
use Rattle.outage.proofs.Reports.{nothing-told, gap-told, restart-told}
use Rattle.outage.proofs.report.report_event.Goals as goal

pub returns-in-InOrder-clause-told : goal.returns-in-InOrder-clause-told
returns-in-InOrder-clause-told c = let a = c.args in nothing-told a.rate a.event a.r.now a.health.now (incoming_of a.i) c.in-InOrder.is

pub returns-in-Gap-clause-told : goal.returns-in-Gap-clause-told
returns-in-Gap-clause-told c = let a = c.args in gap-told a.rate a.event a.r.now a.health.now (incoming_of a.i) _ _ c.in-Gap.is c.report_gap.ensures

pub returns-in-Restart-clause-told : goal.returns-in-Restart-clause-told
returns-in-Restart-clause-told c = let a = c.args in
    restart-told a.rate a.event a.r.now a.health.now (incoming_of a.i) _ _ c.in-Restart.is c.restart_outage-outage.ensures c.report_restart.ensures
