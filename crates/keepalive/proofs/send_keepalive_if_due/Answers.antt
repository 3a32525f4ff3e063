-- `keepalive::send_keepalive_if_due` meets its contract: three steps, one after the other. Assumes nothing.
use Rattle.std.proofs.Common.{◌≡◌, ℕ, List, length, arith}
use Rattle.model.specs.Sending as Sending
use Rattle.model.specs.declared.session.Common.{Common}
use Rattle.model.proofs.Room.{high-due-within, rx-tx-due-within, general-due-within, then-within}
use Rattle.sending.specs.Progress.{Sends, HasRoom}
use Rattle.sending.specs.declared.send.Progress.{Progress}
use Rattle.sending.proofs.Progresses.{room_after, room-less, sends-then}
use Rattle.keepalive.proofs.send_keepalive_if_due.Goals as goal

-- the room that high priority leaves, and that receive and transmit leave of it
rest : (now : ℕ) (p q : Progress) (d e : List ℕ) → Sends (Sending.high_if_due now p.common) p d q e → length e ≡ length d → HasRoom 3008 4 p (length d)
    → HasRoom 1564 3 q (length e)
rest now p q d e s l h = room_after 1444 1 1564 3 _ p d q e (high-due-within now p.common) s l (record { octets = h.octets; streams = h.streams })

last : (now : ℕ) (p q : Progress) (d e : List ℕ) → Sends (Sending.rx_tx_if_due now p.common) p d q e → length e ≡ length d → HasRoom 1564 3 p (length d)
    → HasRoom 60 1 q (length e)
last now p q d e s l h = room_after 1504 2 60 1 _ p d q e (rx-tx-due-within now p.common) s l (record { octets = h.octets; streams = h.streams })

pub rx_tx_specific_if_due-requires : goal.rx_tx_specific_if_due-requires
rx_tx_specific_if_due-requires c =
    let h = c.high_priority_if_due in
    room-less 1564 3 1504 2 _ _ (omega arith) (omega arith) (rest c.args.reading _ _ _ _ h.ensures h.auto.packets c.requires)

pub general_if_due-requires : goal.general_if_due-requires
general_if_due-requires c =
    let h = c.high_priority_if_due in
    let r = c.rx_tx_specific_if_due in
    last c.args.reading _ _ _ _ r.ensures r.auto.packets (rest c.args.reading _ _ _ _ h.ensures h.auto.packets c.requires)

pub returns : goal.returns
unfolding Sending.keepalive
returns c = let a = c.args in
    let now = a.reading in
    let h = c.high_priority_if_due in
    let r = c.rx_tx_specific_if_due in
    let room = rest now _ _ _ _ h.ensures h.auto.packets c.requires in
    sends-then 1564 3 (Sending.high_if_due now a.p.now.common) (λ (d : Common). Sending.then (Sending.rx_tx_if_due now d) (Sending.general_if_due now)) _ _ _ _ _ _
    (then-within 1504 2 60 1 _ _ (rx-tx-due-within now _) (λ e. general-due-within now e)) room h.auto.packets h.ensures
    (sends-then 60 1 _ (Sending.general_if_due now) _ _ _ _ _ _ (general-due-within now _) (last now _ _ _ _ r.ensures r.auto.packets room) r.auto.packets r.ensures
    c.general_if_due.ensures)
