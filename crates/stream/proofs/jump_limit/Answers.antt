-- `stream::jump_limit` meets its contract: the operations in their order. Assumes nothing.
use Rattle.std.proofs.Common.{ℕ, ◌+◌, min, ap, ◌∙◌}
use lib.Ieee.{Float, of_bits, mul, div, binary64}
use Rattle.double.specs.Whole.{most, ceil_of}
use Rattle.stream.specs.Elapsed.{per_datagram64, slack, plausible, jump_limit}
use Rattle.stream.proofs.jump_limit.Goals as goal

pub returns : goal.returns
unfolding jump_limit plausible of_bits
returns c =
    c.saturating_add.ensures
    ∙ ap (λ (n : ℕ). min (n + 8192) most)
    (c.ceil_u64.ensures ∙ ap (λ (s : Float). ceil_of (mul binary64 (mul binary64 s (div binary64 c.args.rate per_datagram64)) slack)) c.seconds.ensures)
