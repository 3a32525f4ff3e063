-- `stream::account_time` meets its contract: the operations in their order. Assumes nothing.
use Rattle.std.proofs.Common.{ap, ◌∙◌}
use lib.Ieee.{Float, of_bits, div, binary64}
use Rattle.double.specs.Seconds.{nanos_of}
use Rattle.stream.specs.Elapsed.{account_time}
use Rattle.stream.proofs.account_time.Goals as goal

pub returns : goal.returns
unfolding account_time of_bits
returns c = c.nanoseconds.ensures ∙ ap (λ (s : Float). nanos_of (div binary64 s c.args.rate)) c.nearest_u64_to_f64.ensures
