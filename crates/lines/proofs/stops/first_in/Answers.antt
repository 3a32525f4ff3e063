-- `lines::stops::first_in` is the word that the line begins with. Assumes nothing.
use Rattle.lines.proofs.Rests.{no-first, first-word}
use Rattle.lines.proofs.stops.first_in.Goals as goal

pub returns-in-Some : goal.returns-in-Some
returns-in-Some c = first-word _ _ _ _ c.in-Some.ensures

pub returns-in-None : goal.returns-in-None
returns-in-None c = no-first _ c.in-None.ensures
