-- `casebook::case::leading`: a turn more leaves what follows a word of what was left. Assumes nothing.
use Rattle.casebook.proofs.Parts.{left-behind}
use Rattle.casebook.proofs.case.leading.Goals as goal

pub loop-count-preserved : goal.loop-count-preserved
loop-count-preserved c = left-behind c.args.s.now c.loop-count.left.now c.split_word.result.1.now c.loop-count.invariant c.split_word.ensures.rest
