-- `outage::elapsed::backlog_datagrams` meets its contract: each turn of the loop takes one number off what is left of the walk. Assumes nothing.
use Prim.Native.Nat.{◌≤◌, ◌+◌, min}
use mathlib.Core.Path.{◌≡◌}
use lib.ListN.{drop}
use Rattle.double.specs.Whole.{most}
use Rattle.model.specs.Rules.{backlog}
use Rattle.outage.proofs.elapsed.backlog_datagrams.Given as goal

abbrev pub invariant-loop-seq : goal.invariant-loop-seq
invariant-loop-seq l =
    (l.total ≤ most) × (min (l.total + backlog l.plausible l.copy (drop l.seq-index l.waiting)) most ≡ min (backlog l.plausible l.initial.copy l.waiting) most)
