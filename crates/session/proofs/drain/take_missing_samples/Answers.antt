-- `session::drain::take_missing_samples` meets its contract. Assumes nothing.
use Rattle.model.specs.Drain as Drain
use Rattle.session.proofs.drain.take_missing_samples.Goals as goal

pub returns : goal.returns
unfolding Drain.take_missing
returns c = simp (c.take.ensures.value, c.take.ensures.after)
