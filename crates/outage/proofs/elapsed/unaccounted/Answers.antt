-- `outage::elapsed::unaccounted` meets its contract. Assumes nothing.
use Rattle.std.proofs.Common.{arith, ◌∙◌}
use Rattle.outage.proofs.Times.{outside, parked-max}
use Rattle.outage.proofs.elapsed.unaccounted.Goals as goal

pub returns-in_default : goal.returns-in_default
returns-in_default c = let a = c.args in outside a.rate a.accepted a.parked a.now c.in_default.is c.saturating_sub-since_last.ensures

pub returns : goal.returns
returns c = let a = c.args in
    omega (arith, c.max.ensures) ∙ parked-max a.rate a.accepted a.parked a.now _ c.in-Some.is c.saturating_sub-since_last.ensures c.saturating_sub-pause.ensures c.account_time.ensures
    c.saturating_sub.ensures
