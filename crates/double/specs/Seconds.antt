-- Nanoseconds and a double's seconds. Definitions only.
use Rattle.std.specs.Prelude.{◌≡◌, ℕ, ◌*◌, ◌/◌, ◌%◌, false, pos, refl, Float}
use Prim.Native.Nat.{compare}
use Rattle.std.specs.Float.{fin, binary64}
use Rattle.std.specs.Float.Ieee.{add, div, of_int, nearest}
use Rattle.double.specs.Whole.{nat_of}

-- 1e9, with its control
abbrev pub giga : Float
giga = fin false 1953125 (pos 9)

giga-is : giga ≡ of_int binary64 (pos 1000000000)
unfolding of_int
giga-is = refl

-- 01, Numbers in the stream: a time as a double is its whole seconds, plus the rest in nanoseconds / 1e9
unfoldable pub seconds_of : ℕ → Float
seconds_of ns = add binary64 (of_int binary64 (pos (ns / 1000000000))) (div binary64 (of_int binary64 (pos (ns % 1000000000))) giga)

-- a / c seconds in nanoseconds, to the nearest, a tie to the even one
abbrev pub nanos_at : ℕ → ℕ → ℕ
nanos_at a c = nearest (a * 1000000000 / c) (compare (a * 1000000000 % c * 2) c)

-- 01: the nanoseconds nearest to a double's seconds, of two the even one. Rust's `Duration::from_secs_f64`
abbrev pub nanos_of : Float → ℕ
nanos_of x = nat_of nanos_at x
