-- `wire::packet::tx_specific_packet` meets its contract: refused for room, or one field stored after the count. Assumes nothing.
use mathlib.Core.List.{[], ◌∷◌}
use native.Mathlib.Omega.{arith}
use Rattle.octets.specs.Packet.{field}
use Rattle.octets.proofs.Packets.{singly-stored}
use Rattle.wire.specs.Packet.{tx_packet}
use Rattle.wire.proofs.Writers.{no_room, sent-fields}
use Rattle.wire.proofs.packet.tx_specific_packet.Goals as goal

pub returns-then-out-lt-TX_SPECIFIC_LEN : goal.returns-then-out-lt-TX_SPECIFIC_LEN
returns-then-out-lt-TX_SPECIFIC_LEN c = no_room 60 _ _ (omega arith)

pub returns : goal.returns
unfolding tx_packet
returns c =
    let s = c.args in
    let fs = field 4 1 1 ∷ [] in
    sent-fields 60 s.seq fs _ _ _ (omega arith) tt tt c.start.ensures
    (singly-stored fs 60 _ (omega arith) tt tt (omega arith, tt))
