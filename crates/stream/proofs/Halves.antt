-- The half-second line at a whole rate: in whole numbers, what is missing is below half the rate where twice as many are below it. Assumes
-- nothing.
use Rattle.std.proofs.Common.{◌≡◌, ℕ, ◌*◌, ◌^◌, ◌<◌, ◌≤◌, false, ltb, ap, ◌∙◌, mul_comm, arith}
use lib.Ieee.{Float}
use lib.Ieee.Exact.{HasValue}
use Rattle.stream.specs.Elapsed.{below_half}
use Rattle.stream.proofs.Limits as Limits

pub half-plain : (n r : ℕ) (rate : Float) → n ≤ 2 ^ 53 → r < 2 ^ 53 → HasValue rate false r 1 → below_half n rate ≡ ltb (2 * n) r
half-plain n r rate N R v = Limits.half-plain n r rate N R v ∙ ap (λ (z : ℕ). ltb z r) (mul_comm n 2)

-- a gap of k datagrams
pub half-line : (k r : ℕ) (rate : Float) → k < 2 ^ 32 → r < 2 ^ 53 → HasValue rate false r 1 → below_half (238 * k) rate ≡ ltb (2 * (238 * k)) r
half-line k r rate K R v = half-plain (238 * k) r rate (few k K) R v
  where
    few : (k : ℕ) → k < 4294967296 → 238 * k ≤ 9007199254740992
    few k h = omega arith
