-- `session::drain::take_discontinuity` meets its contract. Assumes nothing.
use Rattle.model.specs.Drain as Drain
use Rattle.session.proofs.drain.take_discontinuity.Goals as goal

pub returns : goal.returns
unfolding Drain.take_discontinuity
returns c = simp (c.take.ensures.value, c.take.ensures.after)
