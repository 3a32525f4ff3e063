-- `double::time::seconds` meets its contract: both counts are doubles exactly. Assumes nothing.
use Rattle.std.proofs.Common.{refl}
use lib.Ieee.{of_bits}
use Rattle.double.specs.Seconds.{seconds_of}
use Rattle.double.proofs.time.seconds.Goals as goal

pub returns : goal.returns
unfolding seconds_of of_bits
returns c = refl
