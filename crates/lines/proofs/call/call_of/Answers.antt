-- `lines::call::call_of`: the eight numbers, each by its own function. Assumes nothing.
use Rattle.lines.specs.Call.{call_of}
use Rattle.lines.proofs.call.call_of.Goals as goal

pub returns : goal.returns
unfolding call_of
returns c = rw (c.number-kind.ensures, c.call.ensures, c.later_of-later.ensures, c.sender_of-address.ensures, c.count_of-count.ensures, c.or_else-waiting.ensures, c.places_of-places.ensures)
