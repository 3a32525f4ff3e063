-- `turns::call::pass` meets its contract. Assumes nothing.
use Rattle.turns.proofs.Arms.{wrote, passes}
use Rattle.turns.proofs.call.pass.Goals as goal

pub returns : goal.returns
returns c = let a = c.args in wrote _ _ _ _ _ _ _ _ _ c.pass-a.ensures (passes a.s.now a.reading a.packets.now) c.of_pass.ensures c.streams_of_pass.ensures
