-- A double as whole numbers: what the private functions hand on. Definitions only.
use Rattle.std.specs.Prelude.{◌≡◌, ℕ, ◌+◌, ◌*◌, ◌/◌, ◌%◌, ◌^◌, ◌<◌, ◌≤◌, min, Bool, cond, ◌==◌, nat_eq, Float}
use Prim.Native.Nat.{compare}
use Rattle.std.specs.Float.Ieee.{nearest}
use Rattle.std.specs.Float.Ieee.Exact.{HasValue}
use Rattle.std.specs.Float.Ieee.Positive.{num, den}
use Rattle.double.specs.Whole.{most, floor_of, ceil_of, round_of, away}
use Rattle.double.specs.Seconds.{nanos_at}

-- x has the sign s and is digits * 2 ^ scale / 2 ^ 1074 in size
pub record PartsOf (x : Float) (s : Bool) (digits scale : ℕ) : Type 0 where
  pub value : HasValue x s (digits * 2 ^ scale) (2 ^ 1074)
  pub small : digits < 2 ^ 53
  pub range : scale < 2046
  pub full : 0 < scale → 2 ^ 52 ≤ digits

-- x is whole + rest / unit in size, as far as its whole part, whether anything is left and how that compares with a half go
pub record SplitOf (x : Float) (whole rest unit : ℕ) : Type 0 where
  pub cut : whole ≡ min (num x / den x) most
  pub none : nat_eq rest 0 ≡ (num x % den x == 0)
  pub half : compare (rest * 2) unit ≡ compare (num x % den x * 2) (den x)
  pub room : rest < 2 ^ 54

-- the whole numbers near x, as whole, rest and unit give them
pub record NearOf (x : Float) (whole rest unit : ℕ) : Type 0 where
  pub floors : floor_of x ≡ whole
  pub ceils : ceil_of x ≡ min (whole + cond (rest == 0) 0 1) most
  pub rounds : round_of x ≡ min (away whole (compare (rest * 2) unit)) most
  pub room : rest < 2 ^ 54

-- q, or one more, where (t + s / 2 ^ 26) / u is left over, up to the largest u64
unfoldable pub to_even : ℕ → ℕ → ℕ → ℕ → ℕ
to_even q t u s = min (nearest q (compare ((t * 67108864 + s) * 2) (u * 67108864))) most

-- the nanoseconds of d * 2 ^ k / 2 ^ 1074 seconds
unfoldable pub nanos_by : ℕ → ℕ → ℕ
nanos_by d k = min (nanos_at (d * 2 ^ k) (2 ^ 1074)) most
