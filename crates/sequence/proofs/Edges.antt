-- 01's edges, M, hold, by computation. Assumes nothing.
use Rattle.std.proofs.Common.{refl}
use Rattle.base.specs.Pick.{pick}
use Rattle.base.specs.Cases.{Hold}
use Rattle.sequence.specs.Edges.{edges}
use Rattle.sequence.specs.Tracker.{less, zero_restarts, meant, observed}

pub edges-hold : Hold edges
unfolding pick less zero_restarts meant observed
edges-hold = refl
