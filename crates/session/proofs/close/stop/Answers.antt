-- `session::close::stop` meets its contract. Assumes nothing.
use native.Mathlib.Omega.{arith}
use Rattle.model.specs.Sending as Sending
use Rattle.model.proofs.Room.{stop-within}
use Rattle.sending.proofs.Givings.{start-room, from_start}
use Rattle.session.proofs.Closes.{stopped}
use Rattle.session.proofs.close.stop.Goals as goal

pub send_stop-requires : goal.send_stop-requires
send_stop-requires c = start-room 2888 2 c.args.s.now.common _ _ c.start-p.ensures c.requires (omega arith)

pub returns : goal.returns
returns c = let a = c.args in
    stopped a.s.now a.packets.now _ _ _
    (from_start Sending.stop_packets a.s.now.common _ _ _ _ c.start-p.ensures (omega (arith, (stop-within a.s.now.common).streams)) c.send_stop.ensures)
