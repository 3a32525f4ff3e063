-- `sending::send::send_stop` meets its contract. Assumes nothing.
use Rattle.std.proofs.Common.{◌≡◌, ℕ, List, length, false}
use Rattle.model.specs.Sending as Sending
use Rattle.model.specs.declared.session.Common.{Common}
use Rattle.wire.specs.declared.command.Stream.TheVariants.{HighPriority}
use Rattle.model.proofs.Room.{send-within}
use Rattle.sending.specs.Progress.{Sends, HasRoom}
use Rattle.sending.specs.declared.send.Progress.{Progress}
use Rattle.sending.proofs.Progresses.{room_after, sends-then}
use Rattle.sending.proofs.send.send_stop.Goals as goal

-- the room that the first packet leaves
left : (p q : Progress) (d e : List ℕ) → Sends (Sending.send HighPriority false p.common) p d q e → length e ≡ length d → HasRoom 2888 2 p (length d) → HasRoom 1444 1 q (length e)
left p q d e s l h = room_after 1444 1 1444 1 _ p d q e (send-within HighPriority false p.common) s l (record { octets = h.octets; streams = h.streams })

pub send-requires-2 : goal.send-requires-2
send-requires-2 c = left _ _ _ _ c.send.ensures c.send.auto.packets c.requires

pub returns : goal.returns
unfolding Sending.stop_packets
returns c = sends-then 1444 1 _ (λ (d : Common). Sending.send HighPriority false d) _ _ _ _ _ _ (send-within HighPriority false _)
    (left _ _ _ _ c.send.ensures c.send.auto.packets c.requires) c.send.auto.packets c.send.ensures c.send-2.ensures
