-- `arriving::status::stepped` meets its contract. Assumes nothing.
use mathlib.Core.Path.{refl}
use native.Mathlib.Omega.{arith}
use Rattle.model.specs.Answer.{done, status}
use Rattle.model.specs.Sending as Sending
use Rattle.model.proofs.Room.{stepped_within}
use Rattle.sending.proofs.Givings.{start-room, gives-wrote}
use Rattle.arriving.proofs.status.stepped.Goals as goal

pub apply_step-requires : goal.apply_step-requires
apply_step-requires c = start-room 1444 1 c.args.s.now.common _ _ c.start-p.ensures c.requires (omega arith)

pub returns : goal.returns
returns c = let a = c.args in
    gives-wrote (Sending.stepped a.later (record { step = a.step; controller = a.controller })) a.s.now.common _ a.packets.now _ _ c.start-p.ensures
    (omega (arith, (stepped_within a.later (record { step = a.step; controller = a.controller }) a.s.now.common).streams)) c.apply_step.ensures (done status) a.s.now _ refl
