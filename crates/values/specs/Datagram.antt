-- The datagrams that a line stands for. Definitions only.
use Rattle.std.specs.Prelude.{ℕ, zero, suc, ◌+◌, ◌-◌, ◌*◌, ◌%◌, List, [], ◌∷◌, ◌++◌}
use Rattle.stream.specs.Size.{per_datagram}
use Rattle.octets.specs.Number.{be}
use Rattle.octets.specs.Packet.{Field, field, packet}
use Rattle.octets.specs.Written.{written}

-- pair j of the datagram of a number
abbrev pub sample_i : ℕ → ℕ → ℕ
sample_i number j = (per_datagram * number + j) % 16777216

abbrev pub pair_at : ℕ → ℕ → List ℕ
pair_at number j = be 3 (sample_i number j) ++ be 3 (16777215 - sample_i number j)

-- the first k pairs
unfoldable pub pairs : ℕ → ℕ → List ℕ
pairs number zero = []
pairs number (suc k) = pairs number k ++ pair_at number k

abbrev pub header : ℕ → ℕ → ℕ → List Field
header number bits samples = field 0 4 number ∷ field 12 2 bits ∷ field 14 2 samples ∷ []

-- an I/Q datagram made from its number, filled up to 2048 octets: the line's `length` of them are the datagram
unfoldable pub iq_octets : ℕ → ℕ → ℕ → List ℕ
iq_octets number bits samples = written (packet 2048 (header number bits samples)) 16 (pairs number per_datagram)

-- a status packet, all 0 but octet 5
unfoldable pub status_octets : ℕ → List ℕ
status_octets octet = packet 60 (field 5 1 octet ∷ [])
