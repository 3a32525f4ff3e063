-- The discovery reply that the radio writes: 60 octets, as discovery.rs reads a Protocol 2 reply. Definitions only.
use Rattle.std.specs.Prelude.{ℕ, Bool, true, false, List, [], ◌∷◌, Option, Some, None}
use Rattle.octets.specs.Packet.{Field, field, packet}
use Rattle.octets.specs.Written.{written}
use Rattle.discovery.specs.Reply.{status_number}
use Rattle.discovery.specs.declared.DiscoveryStatus.{DiscoveryStatus}
use Rattle.discovery.specs.declared.ReplyAnswer.{ReplyAnswer}
use Rattle.discovery.specs.declared.ReplyAnswer.TheVariants.{Protocol1, Protocol2}
use Rattle.discovery.specs.declared.DiscoveryReply.{DiscoveryReply}

-- only a reply of Protocol 2 is written
abbrev pub is_reply : ReplyAnswer → Bool
is_reply (Protocol1 status board firmware) = false
is_reply (Protocol2 status board firmware receivers) = true

abbrev pub is_written : Option DiscoveryReply → Bool
is_written None = false
is_written (Some r) = is_reply r.answer

-- status 4, board 11, firmware 13, receivers 20
abbrev pub reply_fields : DiscoveryStatus → ℕ → ℕ → ℕ → List Field
reply_fields status board firmware receivers =
    field 4 1 (status_number status) ∷ field 11 1 board ∷ field 13 1 firmware ∷ field 20 1 receivers ∷ []

-- with the address from 5 to 10
unfoldable pub reply_octets : DiscoveryStatus → ℕ → ℕ → ℕ → List ℕ → List ℕ
reply_octets status board firmware receivers mac = written (packet 60 (reply_fields status board firmware receivers)) 5 mac

-- of what is no reply of Protocol 2 nothing is written
abbrev pub reply_packet : ReplyAnswer → List ℕ → List ℕ
reply_packet (Protocol1 status board firmware) mac = []
reply_packet (Protocol2 status board firmware receivers) mac = reply_octets status board firmware receivers mac

abbrev pub packet_of : Option DiscoveryReply → List ℕ
packet_of None = []
packet_of (Some r) = reply_packet r.answer r.mac
