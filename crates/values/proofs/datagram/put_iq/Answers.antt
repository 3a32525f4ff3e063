-- `values::datagram::put_iq` stores the header in a cleared front, then the pairs. Assumes nothing.
use mathlib.Core.Path.{ap, ◌∙◌}
use mathlib.Core.List.{[], ◌∷◌}
use borrow.Author.Rules.{rules}
use Rattle.octets.specs.Packet.{field, stored}
use Rattle.octets.proofs.Packets.{packet-front}
use Rattle.values.specs.Datagram.{header}
use Rattle.values.proofs.Datagrams.{in-front}
use Rattle.values.proofs.datagram.put_iq.Goals as goal

pub returns : goal.returns
returns c =
    let a = c.args in
    let samples = field 14 2 a.samples ∷ [] in
    let bits = field 12 2 a.bits ∷ samples in
    in-front _ _ _ _ _ _ (search rules)
    (c.put_u16-2.ensures
    ∙ ap (stored samples) c.put_u16.ensures
    ∙ ap (stored bits) c.put_u32.ensures
    ∙ ap (stored (header a.number a.bits a.samples)) c.clear.ensures
    ∙ packet-front 2048 (header a.number a.bits a.samples) a.p.now tt)
    c.put_pairs.ensures
