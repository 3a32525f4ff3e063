-- `wire::packet::rx_specific_packet` meets its contract: refused for room, or four fields stored after the count. Assumes nothing.
use mathlib.Core.Path.{ap, ◌∙◌}
use mathlib.Core.List.{[], ◌∷◌, ◌++◌}
use lib.ListN.{length-set}
use native.Mathlib.Omega.{arith}
use Rattle.octets.specs.Packet.{field, stored}
use Rattle.octets.proofs.Writes.{set-be}
use Rattle.octets.proofs.Packets.{singly-stored}
use Rattle.wire.specs.Packet.{rx_packet}
use Rattle.wire.proofs.Writers.{no_room, sent-fields}
use Rattle.wire.proofs.packet.rx_specific_packet.Goals as goal

pub returns-then-out-lt-RX_SPECIFIC_LEN : goal.returns-then-out-lt-RX_SPECIFIC_LEN
returns-then-out-lt-RX_SPECIFIC_LEN c = no_room 1444 _ _ (omega arith)

pub returns : goal.returns
unfolding rx_packet
returns c =
    let put = c.put_u16 in
    let begun = c.start in
    let a = c.args in
    let enable = field 4 1 a.board.adc_count ∷ field 7 1 1 ∷ [] in
    let rate = field 18 2 a.khz in
    let bits = field 22 1 24 in
    sent-fields 1444 a.seq (enable ++ (rate ∷ bits ∷ [])) _ _ _ (omega arith) tt tt begun.ensures
    (set-be _ 22 24 (omega (arith, simp length-set at put.auto.p)) (omega arith)
    ∙ ap (stored (bits ∷ [])) put.ensures
    ∙ ap (stored (rate ∷ bits ∷ [])) (singly-stored enable 1444 _ (omega arith) tt tt (omega arith, (omega arith, tt))))
