-- `keepalive::high_priority_if_due` meets its contract. Assumes nothing.
use Rattle.std.proofs.Common.{ℕ, true, refl}
use Rattle.model.specs.Sending as Sending
use Rattle.model.specs.Parts.{with_clocks, with_high_priority}
use Rattle.model.specs.declared.session.Common.{Common}
use Rattle.wire.specs.declared.command.Stream.TheVariants.{HighPriority}
use Rattle.keepalive.proofs.Clocks.{sends-if-due, idle-if-not-due}
use Rattle.keepalive.proofs.high_priority_if_due.Goals as goal

set : Common → ℕ → Common
set c t = with_clocks c (with_high_priority c.clocks t)

pub returns-then-is_due : goal.returns-then-is_due
unfolding Sending.high_if_due Sending.send_high set
returns-then-is_due c =
    let a = c.args in
    sends-if-due (set a.p.now.common) (λ (x : Common). Sending.send HighPriority true x) 100000000 a.reading _ a.p.now _ _ _ c.is_due.ensures _ _ c.if-is_due.true c.send.ensures

pub returns-else-is_due : goal.returns-else-is_due
unfolding Sending.high_if_due Sending.send_high set
returns-else-is_due c =
    let a = c.args in
    idle-if-not-due (set a.p.now.common) (λ (x : Common). Sending.send HighPriority true x) 100000000 a.reading _ a.p.now _ _ _ c.is_due.ensures refl c.if-is_due.false
