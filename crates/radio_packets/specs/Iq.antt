-- The I/Q datagram that the radio writes of a count and 476 signed 24-bit numbers, I then Q of each pair. Definitions only.
use Rattle.std.specs.Prelude.{ℕ, ◌+◌, ◌-◌, Bool, true, ◌&&◌, List, [], ◌∷◌, ◌++◌, length, ltb, eqb, ℤ, pos, negsuc}
use Rattle.stream.specs.Size.{per_datagram}
use Rattle.octets.specs.Number.{be}
use Rattle.octets.specs.Packet.{Field, field, packet}

-- from -2^23 to 2^23 - 1; `negsuc n` is -(n + 1)
abbrev pub is24 : ℤ → Bool
is24 (pos n) = ltb n 8388608
is24 (negsuc n) = ltb n 8388608

-- its 24 bits, in two's complement
abbrev pub bits_of : ℤ → ℕ
bits_of (pos n) = n
bits_of (negsuc n) = 16777216 - (n + 1)

abbrev pub all24 : List ℤ → Bool
all24 [] = true
all24 (x ∷ xs) = is24 x && all24 xs

-- 238 pairs
unfoldable pub is_pairs : List ℤ → Bool
is_pairs xs = eqb (length xs) 476 && all24 xs

-- three octets each
unfoldable pub octets_of : List ℤ → List ℕ
octets_of [] = []
octets_of (x ∷ xs) = be 3 (bits_of x) ++ octets_of xs

-- count, 12 bits, 14 samples; between them 0
abbrev pub iq_fields : ℕ → List Field
iq_fields count = field 0 4 count ∷ field 12 2 24 ∷ field 14 2 per_datagram ∷ []

unfoldable pub iq_datagram : ℕ → List ℤ → List ℕ
iq_datagram count xs = packet 16 (iq_fields count) ++ octets_of xs
