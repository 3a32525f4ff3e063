-- `sending::send::send` meets its contract: one packet behind the last. Assumes nothing.
use Rattle.std.proofs.Common.{arith, refl}
use Rattle.model.proofs.Room.{packet-size}
use Rattle.sending.proofs.Progresses.{sent-packet}
use Rattle.sending.proofs.send.send.Goals as goal

pub overflow_add-p : goal.overflow_add-p
overflow_add-p c = let a = c.args in omega (arith, c.requires.octets, c.put_packet-length.ensures.ends, packet-size a.stream a.run a.p.now.common)

pub returns : goal.returns
returns c = let a = c.args in
    sent-packet a.stream a.run a.p.now a.packets.now _ _ _ _ _ c.requires c.put_packet-length.ensures c.offset-offset.ensures c.list.ensures
    refl
