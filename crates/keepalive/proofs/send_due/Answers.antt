-- `keepalive::send_due` meets its contract. Assumes nothing.
use Rattle.std.proofs.Common.{◌≡◌, ℕ, List, length}
use Rattle.model.specs.Sending as Sending
use Rattle.model.specs.declared.session.Common.{Common}
use Rattle.model.proofs.Room.{keepalive-within, tick-within}
use Rattle.sending.specs.Progress.{Sends, HasRoom}
use Rattle.sending.specs.declared.send.Progress.{Progress}
use Rattle.sending.proofs.Progresses.{room_after, sends-then}
use Rattle.keepalive.proofs.send_due.Goals as goal

-- the room that the keepalives leave
left : (now : ℕ) (p q : Progress) (d e : List ℕ) → Sends (Sending.keepalive now p.common) p d q e → length e ≡ length d → HasRoom 4452 5 p (length d)
    → HasRoom 1444 1 q (length e)
left now p q d e s l h = room_after 3008 4 1444 1 _ p d q e (keepalive-within now p.common) s l (record { octets = h.octets; streams = h.streams })

pub tick_attenuation-requires : goal.tick_attenuation-requires
tick_attenuation-requires c = left c.args.reading _ _ _ _ c.send_keepalive_if_due.ensures c.send_keepalive_if_due.auto.packets c.requires

pub returns : goal.returns
unfolding Sending.due_packets
returns c = let a = c.args in
    sends-then 1444 1 _ (λ (d : Common). Sending.tick a.reading d.attenuation d) _ _ _ _ _ _ (tick-within _ _ _)
    (left c.args.reading _ _ _ _ c.send_keepalive_if_due.ensures c.send_keepalive_if_due.auto.packets c.requires) c.send_keepalive_if_due.auto.packets c.send_keepalive_if_due.ensures
    c.tick_attenuation.ensures
