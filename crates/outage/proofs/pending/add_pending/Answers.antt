-- `outage::pending::add_pending` meets its contract. Assumes nothing.
use Rattle.model.specs.Rules.{added}
use Rattle.outage.proofs.pending.add_pending.Goals as goal

pub returns-in-None : goal.returns-in-None
unfolding added
returns-in-None c = simp c.in-None.is

pub returns-in-Some : goal.returns-in-Some
unfolding added
returns-in-Some c = simp (c.in-Some.is, c.saturating_add.ensures)
