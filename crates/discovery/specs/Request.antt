-- The Protocol 2 discovery request, discovery.rs: 60 octets, of which octet 4 is 2. Definitions only.
use Rattle.std.specs.Prelude.{ℕ, List, [], ◌∷◌}
use Rattle.octets.specs.Packet.{Field, field, packet}

abbrev pub request_fields : List Field
request_fields = field 4 1 2 ∷ []

unfoldable pub request_packet : List ℕ
request_packet = packet 60 request_fields
