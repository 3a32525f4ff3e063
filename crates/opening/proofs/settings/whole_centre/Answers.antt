-- `opening::settings::whole_centre` meets its contract: the three tests in the row's order. Assumes nothing.
use native.Mathlib.Omega.{arith}
use lib.Ieee.{of_bits}
use Rattle.double.proofs.Decode.{finite_is}
use Rattle.tuning.specs.Centre.{whole_centre}
use Rattle.opening.proofs.settings.whole_centre.Goals as goal

pub returns-then-not-is_finite : goal.returns-then-not-is_finite
unfolding whole_centre
returns-then-not-is_finite c = grind (arith, finite_is)

pub returns-then-f : goal.returns-then-f
unfolding whole_centre of_bits
returns-then-f c = grind (arith, finite_is)

pub returns : goal.returns
unfolding whole_centre of_bits
returns c = grind (arith, finite_is)
