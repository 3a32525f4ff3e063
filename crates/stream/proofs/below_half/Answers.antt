-- `stream::below_half` meets its contract: the operations in their order. Assumes nothing.
use Rattle.std.proofs.Common.{ap}
use lib.Ieee.{Float, of_bits, lt, div, binary64}
use Rattle.stream.specs.Elapsed.{below_half, two}
use Rattle.stream.proofs.below_half.Goals as goal

pub returns : goal.returns
unfolding below_half of_bits
returns c = ap (λ (n : Float). lt n (div binary64 c.args.rate two)) c.nearest_u64_to_f64.ensures
