-- `keepalive::is_due` meets its contract. Assumes nothing.
use Rattle.std.proofs.Common.{refl, sym}
use Rattle.base.specs.Pick as Pick
use Rattle.base.proofs.Tests.{due, not-due}
use Rattle.keepalive.proofs.is_due.Goals as goal

pub returns-then-saturating_sub-every : goal.returns-then-saturating_sub-every
unfolding Pick.pick
returns-then-saturating_sub-every c = let a = c.args in
    (sym (not-due a.every a.reading a.clock.now _ c.saturating_sub.ensures c.if-saturating_sub-every.true), refl)

pub returns : goal.returns
unfolding Pick.pick
returns c = let a = c.args in
    (sym (due a.every a.reading a.clock.now _ c.saturating_sub.ensures c.if-saturating_sub-every.false), refl)
