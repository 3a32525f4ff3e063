-- `receiving::queue::waits` meets its contract. Assumes nothing.
use mathlib.Core.Path.{ap}
use lib.Dec.{ltb}
use Rattle.model.specs.State as State
use Rattle.receiving.proofs.queue.waits.Goals as goal

pub returns : goal.returns
unfolding State.waits
returns c = ap (ltb 0) c.left.ensures
