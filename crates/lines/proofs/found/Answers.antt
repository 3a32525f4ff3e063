-- `lines::found` is a word of the line. Assumes nothing.
use Rattle.lines.proofs.Stood.{found-stands}
use Rattle.lines.proofs.found.Goals as goal

pub returns-clause-stands : goal.returns-clause-stands
returns-clause-stands c = rw c.found_in.ensures (found-stands c.args.line.now)
