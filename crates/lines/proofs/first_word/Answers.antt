-- `lines::first_word` is a word of the line. Assumes nothing.
use Rattle.lines.proofs.Stood.{first-stands}
use Rattle.lines.proofs.first_word.Goals as goal

pub returns-clause-stands : goal.returns-clause-stands
returns-clause-stands c = rw c.first_in.ensures (first-stands c.args.line.now)
