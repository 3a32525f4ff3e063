-- Whole numbers near a double: toward zero, up, half away from zero; and whether it is one. Definitions only.
use Rattle.std.specs.Prelude.{ℕ, ◌+◌, ◌*◌, ◌/◌, ◌%◌, min, Bool, false, cond, ◌==◌, Float}
use Prim.Native.Nat.{compare, Ordering}
use Rattle.std.specs.Float.{nan, inf, fin, binary64}
use Rattle.std.specs.Float.Ieee.{up, down, round}

-- the largest u64
abbrev pub most : ℕ
most = 18446744073709551615

-- a / c, down and up to a whole number
abbrev pub floor_at : ℕ → ℕ → ℕ
floor_at a c = a / c

abbrev pub ceil_at : ℕ → ℕ → ℕ
ceil_at a c = a / c + cond (a % c == 0) 0 1

-- a / c to the nearest, a half up
abbrev pub away : ℕ → Ordering → ℕ
away q Ordering.lt = q
away q Ordering.eq = q + 1
away q Ordering.gt = q + 1

abbrev pub round_at : ℕ → ℕ → ℕ
round_at a c = away (a / c) (compare (a % c * 2) c)

-- The u64 near a double, g saying which of its size as a fraction: 0 of a NaN and of what is negative, and no more than the largest
unfoldable pub nat_of : (ℕ → ℕ → ℕ) → Float → ℕ
nat_of g nan = 0
nat_of g (inf s) = cond s 0 most
nat_of g (fin s m e) = cond s 0 (min (g (m * up e) (down e)) most)

-- Rust's `x.floor() as u64`, `x.ceil() as u64` and `x.round() as u64`. The first is `x as u64` too: `cast-is-floor` of proofs/Floors
abbrev pub floor_of : Float → ℕ
floor_of x = nat_of floor_at x

abbrev pub ceil_of : Float → ℕ
ceil_of x = nat_of ceil_at x

abbrev pub round_of : Float → ℕ
round_of x = nat_of round_at x

-- Rust's `x.round()`: a double again, half away from zero, with x's sign
unfoldable pub rounded : Float → Float
unfolding round
rounded nan = nan
rounded (inf s) = inf s
rounded (fin s m e) = round binary64 s (round_at (m * up e) (down e)) 1

-- Rust's `x.fract() == 0.0`
unfoldable pub is_whole : Float → Bool
is_whole nan = false
is_whole (inf s) = false
is_whole (fin s m e) = m * up e % down e == 0
