-- `discovery::discovery_request_p2` meets its contract: refused for room, or one field stored in cleared octets. Assumes nothing.
use mathlib.Core.Path.{ap, ◌∙◌}
use native.Mathlib.Omega.{arith}
use Rattle.octets.specs.Packet.{stored}
use Rattle.octets.proofs.Packets.{singly-stored, packet-front}
use Rattle.wire.proofs.Writers.{no_room, sent}
use Rattle.discovery.specs.Request.{request_fields, request_packet}
use Rattle.discovery.proofs.discovery_request_p2.Goals as goal

pub returns-then-out-lt-PROTOCOL2_REQUEST_LEN : goal.returns-then-out-lt-PROTOCOL2_REQUEST_LEN
returns-then-out-lt-PROTOCOL2_REQUEST_LEN c = no_room 60 _ _ (omega arith)

pub returns : goal.returns
unfolding request_packet
returns c =
    let d = c.args.out.now in
    sent 60 request_packet d _ (omega arith)
    (singly-stored request_fields 60 _ (omega arith) tt tt (omega arith, tt)
    ∙ ap (stored request_fields) c.clear.ensures
    ∙ packet-front 60 request_fields d tt)
