-- The status packet that the radio writes of an overload bit: 60 octets, of which octet 5 is the bit. Definitions only.
use Rattle.std.specs.Prelude.{ℕ, Bool, true, false, List, [], ◌∷◌}
use Rattle.octets.specs.Packet.{Field, field, packet}

abbrev pub status_octet : Bool → ℕ
status_octet true = 1
status_octet false = 0

abbrev pub status_fields : Bool → List Field
status_fields overload = field 5 1 (status_octet overload) ∷ []

unfoldable pub status_packet : Bool → List ℕ
status_packet overload = packet 60 (status_fields overload)
