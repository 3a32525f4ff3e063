-- `casebook::case::leading` reads a number a turn: what is left follows a place of the line. Assumes nothing.
use Rattle.text.specs.Part.{Behind}
use Rattle.casebook.proofs.case.leading.Given as goal

abbrev pub invariant-loop-count : goal.invariant-loop-count
invariant-loop-count l = Behind l.fn.s l.left
