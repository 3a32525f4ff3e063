-- `keepalive::general_if_due` meets its contract. Assumes nothing.
use Rattle.std.proofs.Common.{ℕ, true, refl}
use Rattle.model.specs.Sending as Sending
use Rattle.model.specs.Parts.{with_clocks, with_general}
use Rattle.model.specs.declared.session.Common.{Common}
use Rattle.wire.specs.declared.command.Stream.TheVariants.{General}
use Rattle.keepalive.proofs.Clocks.{sends-if-due, idle-if-not-due}
use Rattle.keepalive.proofs.general_if_due.Goals as goal

set : Common → ℕ → Common
set c t = with_clocks c (with_general c.clocks t)

pub returns-then-is_due : goal.returns-then-is_due
unfolding Sending.general_if_due Sending.send_general set
returns-then-is_due c =
    let a = c.args in
    sends-if-due (set a.p.now.common) (λ (x : Common). Sending.send General true x) 800000000 a.reading _ a.p.now _ _ _ c.is_due.ensures _ _ c.if-is_due.true c.send.ensures

pub returns-else-is_due : goal.returns-else-is_due
unfolding Sending.general_if_due Sending.send_general set
returns-else-is_due c =
    let a = c.args in
    idle-if-not-due (set a.p.now.common) (λ (x : Common). Sending.send General true x) 800000000 a.reading _ a.p.now _ _ _ c.is_due.ensures refl c.if-is_due.false
