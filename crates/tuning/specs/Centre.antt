-- The centre frequencies that the settings accept: 01's rows 4 and 5. Definitions only.
use Rattle.std.specs.Prelude.{◌<◌, Bool, false, ◌&&◌, ◌≡◌, refl, pos, Float}
use Rattle.std.specs.Float.{fin, binary64}
use Rattle.std.specs.Float.Ieee.{of_int, lt}
use Rattle.std.specs.Float.Ieee.Exact.{HasValue}
use Rattle.std.specs.Float.Ieee.Scale.{finite}
use Rattle.double.specs.Whole.{is_whole, floor_of}

abbrev pub zero64 : Float
zero64 = fin false 0 (pos 0)

-- half the ADC clock: 61,440,000 Hz
abbrev pub nyquist : Float
nyquist = fin false 1875 (pos 15)

nyquist-is : nyquist ≡ of_int binary64 (pos 61440000)
unfolding of_int
nyquist-is = refl

-- 4 unless: finite, above 0 and whole
unfoldable pub whole_centre : Float → Bool
whole_centre f = finite f && (lt zero64 f && is_whole f)

-- 5 unless: below 61,440,000 Hz
unfoldable pub below_nyquist : Float → Bool
below_nyquist f = lt f nyquist

abbrev pub accepted_centre : Float → Bool
accepted_centre f = whole_centre f && below_nyquist f

-- an accepted one is a whole number of Hz, from 1 to 61,439,999
pub record Accepted (x : Float) : Type 0 where
  pub value : HasValue x false (floor_of x) 1
  pub some : 0 < floor_of x
  pub most : floor_of x < 61440000
