-- `radio_packets::status::status_packet` meets its contract: refused for room, or one field stored in a cleared front. Assumes nothing.
use mathlib.Core.Path.{◌≡◌, ap, ◌∙◌}
use lib.ListN.{set}
use native.Mathlib.Omega.{arith}
use Rattle.octets.specs.Packet.{stored}
use Rattle.octets.proofs.Packets.{packet-front}
use Rattle.octets.proofs.Writes.{set-be}
use Rattle.wire.proofs.Writers.{no_room, sent}
use Rattle.radio_packets.specs.Status.{status_octet, status_fields, status_packet}
use Rattle.radio_packets.proofs.Backs.{octet-small}
use Rattle.radio_packets.proofs.status.status_packet.Goals as goal
use Rattle.radio_packets.proofs.status.status_packet.Goals.{then-overload, else-overload}

pub returns-then-out-lt-STATUS_LEN : goal.returns-then-out-lt-STATUS_LEN
returns-then-out-lt-STATUS_LEN c = no_room 60 _ _ (omega arith)

pub returns : goal.returns
unfolding status_packet
returns c =
    let a = c.args in
    let bit : c.if-overload.out ≡ status_octet a.overload =
    elim c.if-overload.branch [ then-overload w ↦ rw w.if-overload.true w.out-is | else-overload w ↦ rw w.if-overload.false w.out-is ] in
    sent 60 (status_packet a.overload) _ _ (omega arith)
    (ap (set c.clear.new.p 5) bit
    ∙ set-be _ 5 _ (omega arith) (octet-small a.overload)
    ∙ ap (stored (status_fields a.overload)) c.clear.ensures
    ∙ packet-front 60 (status_fields a.overload) a.out.now tt)
