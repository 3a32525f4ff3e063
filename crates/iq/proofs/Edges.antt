-- 01's edges, M, hold, by computation. Assumes nothing.
use mathlib.Core.Path.{refl}
use lib.Ieee.{of_int, mul, div, round}
use Rattle.base.specs.Pick.{pick}
use Rattle.base.specs.Cases.{Hold}
use Rattle.iq.specs.Edges.{edges}
use Rattle.iq.specs.Iq.{magnitude, sample_of}

pub edges-hold : Hold edges
unfolding mul div of_int round pick magnitude sample_of
edges-hold = refl
