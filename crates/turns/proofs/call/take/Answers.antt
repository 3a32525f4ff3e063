-- `turns::call::take` meets its contract. Assumes nothing.
use Rattle.turns.proofs.Arms.{took}
use Rattle.turns.proofs.call.take.Goals as goal

pub returns : goal.returns
returns c = let a = c.args in took a.s.now a.samples.now a.reading a.places.now _ _ _ _ _ c.take.ensures c.plain.ensures c.of_take.ensures
