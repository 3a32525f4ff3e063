-- `passing::pass::sent` meets its contract. Assumes nothing.
use mathlib.Core.Path.{refl}
use native.Mathlib.Omega.{arith}
use Rattle.model.specs.Answer.{done}
use Rattle.model.specs.Answer as Answer
use Rattle.model.specs.Sending as Sending
use Rattle.model.proofs.Room.{due-within}
use Rattle.sending.proofs.Givings.{start-room, gives-wrote}
use Rattle.passing.proofs.pass.sent.Goals as goal

pub send_due-requires : goal.send_due-requires
send_due-requires c = start-room 4452 5 c.args.s.now.common _ _ c.start-p.ensures c.requires (omega arith)

pub returns : goal.returns
returns c = let a = c.args in
    let s = a.s.now in
    gives-wrote (Sending.due_packets a.reading) s.common _ a.packets.now _ _ c.start-p.ensures (due-within a.reading s.common).streams
    c.send_due.ensures (done Answer.sent) s _ refl
