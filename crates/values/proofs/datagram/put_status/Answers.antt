-- `values::datagram::put_status` stores one octet in a cleared front. Assumes nothing.
use mathlib.Core.Path.{ap, ◌∙◌}
use mathlib.Core.List.{[], ◌∷◌}
use Rattle.octets.specs.Packet.{field, stored}
use Rattle.octets.proofs.Packets.{singly-stored, packet-front}
use Rattle.values.specs.Datagram.{status_octets}
use borrow.Author.Rules.{rules}
use Rattle.values.proofs.datagram.put_status.Goals as goal

pub returns : goal.returns
unfolding status_octets
returns c =
    let a = c.args in
    let fs = field 5 1 a.octet ∷ [] in
    singly-stored fs 60 _ (search rules) tt tt (search rules, tt) ∙ ap (stored fs) c.clear.ensures ∙ packet-front 60 fs a.p.now tt
