-- `outage::window::refilled` meets its contract. Assumes nothing.
use Rattle.model.specs.Rules as Rules
use Rattle.outage.proofs.window.refilled.Goals as goal

pub returns-in-None : goal.returns-in-None
unfolding Rules.refilled
returns-in-None c = simp c.in-None.is

pub returns-in-Some : goal.returns-in-Some
unfolding Rules.refilled
returns-in-Some c = simp c.in-Some.is
