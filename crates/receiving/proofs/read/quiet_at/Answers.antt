-- `receiving::read::quiet_at` meets its contract: soft, then hard. Assumes nothing.
use Rattle.base.proofs.Tests.{was}
use Rattle.receiving.proofs.Quiets.{quiet-soft, quiet-hard, quiet_short}
use Rattle.receiving.proofs.read.quiet_at.Goals as goal

pub returns-then-due : goal.returns-then-due
returns-then-due c = let a = c.args in quiet-soft a.r a.now a.soft_after a.stall_after _ c.quiet_since-last.ensures (was c.due.ensures c.if-due.true)

pub returns-then-saturating_sub-stall_after : goal.returns-then-saturating_sub-stall_after
returns-then-saturating_sub-stall_after c = let a = c.args in
    quiet-hard a.r a.now a.soft_after a.stall_after _ c.quiet_since-last.ensures (was c.due.ensures c.if-due.false) _ c.saturating_sub.ensures c.if-saturating_sub-stall_after.true

pub returns : goal.returns
returns c = let a = c.args in
    quiet_short a.r a.now a.soft_after a.stall_after _ c.quiet_since-last.ensures (was c.due.ensures c.if-due.false) _ c.saturating_sub.ensures c.if-saturating_sub-stall_after.false
