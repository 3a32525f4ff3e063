-- What follows from the rate of accepted settings, whichever rate that is: 2026-04. Definitions only.
use Rattle.std.specs.Prelude.{◌≡◌, ℕ, ◌*◌, ◌^◌, ◌<◌, false, nat_lt, Float}
use Rattle.std.specs.Float.Ieee.Exact.{HasValue}
use Rattle.base.specs.Pick.{pick}
use Rattle.stream.specs.Size.{per_datagram}
use Rattle.stream.specs.Rated.{Rated}
use Rattle.tuning.specs.Rate.{khz_of}
use Rattle.sequence.specs.declared.SeqEvent.TheVariants.{Gap}
use Rattle.model.specs.Rules.{added, pending_after}
use Rattle.model.specs.Parts.{with_missing, with_discontinuity}
use Rattle.model.specs.declared.receiver.Pending.{Pending}

-- in Hz
abbrev pub hz_of : Float → ℕ
hz_of rate = khz_of rate * 1000

pub record AtRate (rate : Float) : Type 0 where
  -- it is that whole number of Hz
  pub whole : HasValue rate false (hz_of rate) 1
  -- its kHz fit the field of a receive packet
  pub field : khz_of rate < 2 ^ 16
  -- half-second line, jump limit, restart sum, account and coverage as time
  pub rated : Rated rate (hz_of rate)
  -- a gap of k is told as missing where 2 × 238 k is below the rate, and else as a discontinuity
  pub gap : (k : ℕ) (p : Pending) → k < 2 ^ 32
      → pending_after rate (Gap k) (per_datagram * k) p
      ≡ pick (nat_lt (2 * (per_datagram * k)) (hz_of rate)) (with_missing p (added p.missing (per_datagram * k))) (with_discontinuity p (added p.discontinuity (per_datagram * k)))
