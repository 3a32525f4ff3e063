-- `text::place_of` goes over the names one by one. Assumes nothing.
use lib.ListN.{length}
use Rattle.text.proofs.Names.{Sought}
use Rattle.text.proofs.place_of.Given as goal

abbrev pub invariant-loop-name : goal.invariant-loop-name
invariant-loop-name l = Sought l.w l.names l.left l.k

abbrev pub decreases-loop-name : goal.decreases-loop-name
decreases-loop-name l = length l.left
