-- `stream::restart_missing` meets its contract: the operations in their order. Assumes nothing.
use Rattle.std.proofs.Common.{ap, ◌∙◌}
use lib.Ieee.{Float, of_bits, sub, mul, binary64}
use Rattle.double.specs.Whole.{floor_of, rounded}
use Rattle.stream.specs.Elapsed.{per_datagram64, restart_missing}
use Rattle.stream.proofs.restart_missing.Goals as goal

pub returns : goal.returns
unfolding restart_missing of_bits
returns c =
    c.floor_u64.ensures
    ∙ ap (λ (x : Float). floor_of (sub binary64 x per_datagram64))
    (c.round.ensures ∙ ap (λ (s : Float). rounded (mul binary64 s c.args.rate)) c.seconds.ensures)
