-- `lines::option::options` takes the words one by one. Assumes nothing.
use lib.ListN.{length}
use Rattle.lines.proofs.Options.{Running}
use Rattle.lines.proofs.option.options.Given as goal

abbrev pub invariant-loop-word : goal.invariant-loop-word
invariant-loop-word l = Running l.from l.to l.fn.s l.initial.values l.initial.numbers l.left l.values l.numbers

abbrev pub decreases-loop-word : goal.decreases-loop-word
decreases-loop-word l = length l.left
