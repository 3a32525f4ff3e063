-- `turns::call::begin` meets its contract. Assumes nothing.
use Rattle.turns.proofs.Arms.{plain, begins}
use Rattle.turns.proofs.call.begin.Goals as goal

pub returns : goal.returns
returns c = plain _ _ _ _ _ _ _ c.begin.ensures (begins c.args.s.now c.args.now) c.plain.ensures c.of_begin.ensures
