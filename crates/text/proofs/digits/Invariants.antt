-- `text::digits` reads the digits one by one. Assumes nothing.
use Rattle.text.proofs.Spelling.{Read}
use Rattle.text.proofs.digits.Given as goal

abbrev pub invariant-loop-x : goal.invariant-loop-x
invariant-loop-x l = Read l.base l.s l.n l.x-index
