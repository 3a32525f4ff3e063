-- `outage::elapsed::datagrams` meets its contract. Assumes nothing.
use Rattle.model.specs.Rules as Rules
use Rattle.outage.proofs.elapsed.datagrams.Goals as goal

pub returns-in-InOrder : goal.returns-in-InOrder
unfolding Rules.datagrams
returns-in-InOrder c = simp c.in-InOrder.is

pub returns-in-Gap : goal.returns-in-Gap
unfolding Rules.datagrams
returns-in-Gap c = simp c.in-Gap.is

pub returns-in-Stale : goal.returns-in-Stale
unfolding Rules.datagrams
returns-in-Stale c = simp c.in-Stale.is

pub returns-in-Restart : goal.returns-in-Restart
unfolding Rules.datagrams
returns-in-Restart c = simp c.in-Restart.is
