-- The phase word of a frequency in Hz. Definitions only.
use Rattle.std.specs.Prelude.{ℕ, min, false, ◌≡◌, refl, pos, Float}
use Rattle.std.specs.Float.{fin, binary64}
use Rattle.std.specs.Float.Ieee.{of_int, mul, div}
use Rattle.double.specs.Whole.{floor_of}

abbrev pub two32 : Float
two32 = fin false 1 (pos 32)

-- the ADC clock: 122,880,000 Hz
abbrev pub clock : Float
clock = fin false 1875 (pos 16)

two32-is : two32 ≡ of_int binary64 (pos 4294967296)
unfolding of_int
two32-is = refl

clock-is : clock ≡ of_int binary64 (pos 122880000)
unfolding of_int
clock-is = refl

-- f × 2^32, over 122,880,000, in doubles, then floored: 0 of NaN and below 0, at most the largest u32
unfoldable pub phase_word_of : Float → ℕ
phase_word_of f = min (floor_of (div binary64 (mul binary64 f two32) clock)) 4294967295
