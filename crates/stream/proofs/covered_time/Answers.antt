-- `stream::covered_time` meets its contract: the operations in their order. Assumes nothing.
use Rattle.std.proofs.Common.{ap, ◌∙◌}
use lib.Ieee.{Float, of_bits, mul, div, binary64}
use Rattle.double.specs.Seconds.{nanos_of}
use Rattle.stream.specs.Elapsed.{covered_time, per_datagram64}
use Rattle.stream.proofs.covered_time.Goals as goal

pub returns : goal.returns
unfolding covered_time of_bits
returns c = c.nanoseconds.ensures ∙ ap (λ (s : Float). nanos_of (div binary64 (mul binary64 s per_datagram64) c.args.rate)) c.nearest_u64_to_f64.ensures
