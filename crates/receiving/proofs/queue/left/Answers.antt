-- `receiving::queue::left` meets its contract. Assumes nothing.
use Rattle.model.specs.State as State
use Rattle.receiving.proofs.queue.left.Goals as goal

pub returns : goal.returns
unfolding State.left
returns c = c.saturating_sub.ensures
