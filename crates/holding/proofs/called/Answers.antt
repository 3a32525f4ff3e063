-- `holding::called` meets its contract. Assumes nothing.
use Rattle.holding.proofs.Keeps.{goes}
use Rattle.holding.proofs.called.Goals as goal

pub returns : goal.returns
returns c = goes _ _ _ _ _ _ _ _ _ _ _ _ c.mark.ensures
