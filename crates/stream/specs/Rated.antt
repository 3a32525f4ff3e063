-- What a whole rate of r samples a second gives, in whole numbers: the claim of 2026-04, in which no rate is named. A figure is worked
-- out in doubles, in 01's order; it is that of the exact fraction, known to within a part in 2 ^ 50 (Between). Definitions only.
use Rattle.std.specs.Prelude.{◌≡◌, ℕ, ◌+◌, ◌-◌, ◌*◌, ◌/◌, ◌^◌, ◌<◌, ◌≤◌, min, pos, nat_lt, Float}
use Rattle.std.specs.Float.{binary64}
use Rattle.std.specs.Float.Ieee.{of_int}
use Rattle.double.specs.Whole.{most, floor_of, ceil_at, round_at}
use Rattle.double.specs.Seconds.{nanos_at}
use Rattle.double.specs.Between.{Between}
use Rattle.stream.specs.Size.{per_datagram, max_buffered}
use Rattle.stream.specs.Elapsed.{jump_limit, restart_missing, account_time, covered_time, below_half}

-- the jump limit: the datagrams of ns nanoseconds and a hundredth more, rounded up, with one socket buffer. Nothing is cut
pub record Limit (rate : Float) (r ns : ℕ) : Type 0 where
  pub lost : ℕ
  pub near : Between ceil_at lost (ns * r * 101) (1000000000 * per_datagram * 100)
  pub is : jump_limit ns rate ≡ lost + max_buffered

-- a restart's missing: the samples of ns nanoseconds, to the nearest, less those of a datagram
pub record Outage (rate : Float) (r ns : ℕ) : Type 0 where
  pub samples : ℕ
  pub near : Between round_at samples (ns * r) 1000000000
  -- the difference is the double nearest to it
  pub is : restart_missing ns rate ≡ floor_of (of_int binary64 (pos (samples - per_datagram)))
  -- so it is the whole number while elapsed time × rate stays within 2 ^ 53
  pub plain : (ns / 1000000000 + 1) * r ≤ 2 ^ 53 → restart_missing ns rate ≡ samples - per_datagram
  -- and within 2 ^ (54 + j) it is at most 2 ^ j away
  pub least : (j : ℕ) → j ≤ 9 → (ns / 1000000000 + 1) * r ≤ 2 ^ (54 + j) → samples - per_datagram ≤ restart_missing ns rate + 2 ^ j
  pub most : (j : ℕ) → j ≤ 9 → (ns / 1000000000 + 1) * r ≤ 2 ^ (54 + j) → restart_missing ns rate ≤ samples - per_datagram + 2 ^ j

-- n samples as time: n over the rate in nanoseconds, to the nearest; what passes 2 ^ 64 - 1 stays there
pub record Time (told n r : ℕ) : Type 0 where
  pub nanos : ℕ
  pub near : Between nanos_at nanos n r
  pub is : told ≡ min nanos most

pub record Rated (rate : Float) (r : ℕ) : Type 0 where
  -- a gap of k is below half the rate exactly where twice its samples are below the rate
  pub half : (k : ℕ) → k < 2 ^ 32 → below_half (per_datagram * k) rate ≡ nat_lt (2 * (per_datagram * k)) r
  pub limit : (ns : ℕ) → ns < 2 ^ 64 → Limit rate r ns
  pub limit_rises : (ns later : ℕ) → ns ≤ later → later < 2 ^ 64 → jump_limit ns rate ≤ jump_limit later rate
  pub restart : (ns : ℕ) → ns < 2 ^ 64 → Outage rate r ns
  pub restart_rises : (ns later : ℕ) → ns ≤ later → later < 2 ^ 64 → restart_missing ns rate ≤ restart_missing later rate
  pub account : (n : ℕ) → n < 2 ^ 64 → Time (account_time n rate) n r
  pub account_rises : (n more : ℕ) → n ≤ more → more < 2 ^ 64 → account_time n rate ≤ account_time more rate
  pub covered : (n : ℕ) → n < 2 ^ 64 → Time (covered_time n rate) (n * per_datagram) r
  pub covered_rises : (n more : ℕ) → n ≤ more → more < 2 ^ 64 → covered_time n rate ≤ covered_time more rate
