-- `wire::packet::general_packet` meets its contract: refused for room, or three fields stored after the count. Assumes nothing.
use mathlib.Core.List.{[], ◌∷◌}
use native.Mathlib.Omega.{arith}
use Rattle.octets.specs.Packet.{field}
use Rattle.octets.proofs.Packets.{singly-stored}
use Rattle.wire.specs.Packet.{general_packet}
use Rattle.wire.proofs.Writers.{no_room, sent-fields}
use Rattle.wire.proofs.packet.general_packet.Goals as goal

pub returns-then-out-lt-GENERAL_LEN : goal.returns-then-out-lt-GENERAL_LEN
returns-then-out-lt-GENERAL_LEN c = no_room 60 _ _ (omega arith)

pub returns : goal.returns
unfolding general_packet
returns c =
    let s = c.args in
    let fs = field 37 1 8 ∷ field 38 1 1 ∷ field 59 1 s.board.filter_enable ∷ [] in
    sent-fields 60 s.seq fs _ _ _ (omega arith) tt tt c.start.ensures
    (singly-stored fs 60 _ (omega arith) tt tt (omega arith, (omega arith, (omega arith, tt))))
