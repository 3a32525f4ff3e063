-- `arriving::malformed::note_malformed` meets its contract. Assumes nothing.
use Rattle.model.specs.Arrival.{with_one_more}
use Rattle.arriving.proofs.malformed.note_malformed.Goals as goal

pub returns : goal.returns
unfolding with_one_more
returns c = simp (c.saturating_add-c.ensures, c.record_malformed.ensures)
