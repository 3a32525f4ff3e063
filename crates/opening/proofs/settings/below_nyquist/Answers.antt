-- `opening::settings::below_nyquist` meets its contract. Assumes nothing.
use mathlib.Core.Path.{refl}
use lib.Ieee.{of_bits}
use Rattle.tuning.specs.Centre.{below_nyquist}
use Rattle.opening.proofs.settings.below_nyquist.Goals as goal

pub returns : goal.returns
unfolding below_nyquist of_bits
returns c = refl
