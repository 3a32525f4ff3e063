-- `outage::elapsed::capped` meets its contract. Assumes nothing.
use native.Mathlib.Omega.{arith}
use Rattle.outage.proofs.Events.{capped-other, capped-within, capped-over}
use Rattle.outage.proofs.elapsed.capped.Goals as goal

pub returns-in_default : goal.returns-in_default
returns-in_default c = let a = c.args in
    capped-other a.limit a.event
    c.in_default.not-Gap

pub returns-then-k-limit : goal.returns-then-k-limit
returns-then-k-limit c = let a = c.args in capped-within a.limit a.event _ c.in-Gap.is (omega (arith, c.if-k-limit.true))

pub returns : goal.returns
returns c = let a = c.args in capped-over a.limit a.event _ c.in-Gap.is c.if-k-limit.false
