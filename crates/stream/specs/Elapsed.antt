-- What a stream's elapsed time and rate give: 01, Numbers in the stream. The rate is in samples a second, and any double. Definitions only.
use Rattle.std.specs.Prelude.{◌≡◌, ℕ, ◌+◌, min, Bool, false, pos, negsuc, refl, Float}
use Rattle.std.specs.Float.{fin, binary64}
use Rattle.std.specs.Float.Ieee.{sub, mul, div, lt, of_int, round}
use Rattle.double.specs.Whole.{most, floor_of, ceil_of, rounded}
use Rattle.stream.specs.Size.{per_datagram, max_buffered}
use Rattle.double.specs.Seconds.{seconds_of, nanos_of}

-- the doubles 238, the samples of a datagram, 1.01 and 2, each with its control
abbrev pub per_datagram64 : Float
per_datagram64 = fin false 119 (pos 1)

abbrev pub slack : Float
slack = fin false 4548635623644201 (negsuc 51)

abbrev pub two : Float
two = fin false 1 (pos 1)

per_datagram64-is : per_datagram64 ≡ of_int binary64 (pos per_datagram)
unfolding of_int
per_datagram64-is = refl

pub slack-is : slack ≡ round binary64 false 101 100
unfolding round
slack-is = refl

two_is : two ≡ of_int binary64 (pos 2)
unfolding of_int
two_is = refl

-- (seconds × (rate / 238)) × 1.01, in doubles
unfoldable pub plausible : ℕ → Float → Float
plausible ns rate = mul binary64 (mul binary64 (seconds_of ns) (div binary64 rate per_datagram64)) slack

-- jump limit: ceil((seconds × (rate / 238)) × 1.01) + 8192. Rust's `plausible_lost_datagrams`
unfoldable pub jump_limit : ℕ → Float → ℕ
jump_limit ns rate = min (ceil_of (plausible ns rate) + max_buffered) most

-- a restart's missing: round(seconds × rate) - 238. The 238 comes off in doubles, and `floor_of` gives 0 below 0
unfoldable pub restart_missing : ℕ → Float → ℕ
restart_missing ns rate = floor_of (sub binary64 (rounded (mul binary64 (seconds_of ns) rate)) per_datagram64)

-- the time of an account of n samples: n over the rate
unfoldable pub account_time : ℕ → Float → ℕ
account_time n rate = nanos_of (div binary64 (of_int binary64 (pos n)) rate)

-- the time that n datagrams cover: (n × 238) / rate
unfoldable pub covered_time : ℕ → Float → ℕ
covered_time n rate = nanos_of (div binary64 (mul binary64 (of_int binary64 (pos n)) per_datagram64) rate)

-- whether n missing samples are below half the rate
unfoldable pub below_half : ℕ → Float → Bool
below_half n rate = lt (of_int binary64 (pos n)) (div binary64 rate two)
