-- `keepalive::rx_tx_specific_if_due` meets its contract. Assumes nothing.
use Rattle.std.proofs.Common.{◌≡◌, ℕ, ◌+◌, ◌≤◌, List, length, true, refl}
use Rattle.model.specs.Sending as Sending
use Rattle.model.specs.Parts.{with_clocks, with_rx_tx_specific}
use Rattle.model.specs.declared.session.Common.{Common}
use Rattle.wire.specs.declared.command.Stream.TheVariants.{RxSpecific, TxSpecific}
use Rattle.model.proofs.Room.{send-within}
use Rattle.sending.specs.Progress.{Sends, HasRoom}
use Rattle.sending.specs.declared.send.Progress.{Progress}
use Rattle.sending.proofs.Progresses.{room_after, sends-then}
use Rattle.keepalive.proofs.Clocks.{sends-if-due, idle-if-not-due}
use Rattle.keepalive.proofs.rx_tx_specific_if_due.Goals as goal

-- the room that the first packet leaves
left : (p q : Progress) (d e : List ℕ) → Sends (Sending.send RxSpecific true p.common) p d q e → length e ≡ length d → p.end + 1504 ≤ length d → p.streams.count + 2 ≤ 5
    → HasRoom 60 1 q (length e)
left p q d e s l o k = room_after 1444 1 60 1 _ p d q e (send-within RxSpecific true p.common) s l (record { octets = o; streams = k })

set : Common → ℕ → Common
set c t = with_clocks c (with_rx_tx_specific c.clocks t)

both : Common → Sending.Sending
both c = Sending.then (Sending.send RxSpecific true c) (λ (d : Common). Sending.send TxSpecific true d)

pub send-requires-then-is_due : goal.send-requires-then-is_due
send-requires-then-is_due c = left _ _ _ _ c.send.ensures c.send.auto.packets c.requires.octets c.requires.streams

pub returns-then-is_due : goal.returns-then-is_due
unfolding Sending.rx_tx_if_due Sending.send_rx_tx set both
returns-then-is_due c =
    let a = c.args in
    sends-if-due (set a.p.now.common) both 200000000 a.reading _ a.p.now _ _ _ c.is_due.ensures _ _ c.if-is_due.true
    (sends-then 60 1 _ (λ (d : Common). Sending.send TxSpecific true d) _ _ _ _ _ _ (send-within TxSpecific true _)
    (left _ _ _ _ c.send.ensures c.send.auto.packets c.requires.octets c.requires.streams) c.send.auto.packets c.send.ensures c.send-then-is_due.ensures)

pub returns-else-is_due : goal.returns-else-is_due
unfolding Sending.rx_tx_if_due Sending.send_rx_tx set both
returns-else-is_due c =
    let a = c.args in
    idle-if-not-due (set a.p.now.common) both 200000000 a.reading _ a.p.now _ _ _ c.is_due.ensures refl c.if-is_due.false
