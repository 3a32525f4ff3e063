-- Packets due and written: keepalives, an attenuation step's packet, and those of Close. Definitions only.
use Rattle.std.specs.Prelude.{ℕ, ◌+◌, ◌-◌, ◌%◌, ◌^◌, Bool, true, false, List, [], ◌∷◌, ◌++◌, nat_le, slice_index, slice_set, Option, Some, None}
use Rattle.attenuator.specs.declared.Controller.{Controller}
use Rattle.base.specs.Pick.{pick}
use Rattle.octets.specs.Written.{written}
use Rattle.wire.specs.Packet.{general_packet, rx_packet, tx_packet, high_packet}
use Rattle.attenuator.specs.Controller.{ticked}
use Rattle.attenuator.specs.declared.AttenuationStep.{AttenuationStep}
use Rattle.attenuator.specs.Controller.{Stepped}
use Rattle.wire.specs.declared.command.Stream.{Stream}
use Rattle.wire.specs.declared.command.Stream.TheVariants.{General, RxSpecific, TxSpecific, HighPriority}
use Rattle.model.specs.declared.session.Common.{Common}
use Rattle.wire.specs.Command.{offset_of}
use Rattle.model.specs.Parts.{with_high_priority, with_rx_tx_specific, with_general, with_seq, with_clocks, with_attenuation, with_common}
use Rattle.model.specs.Answer.{Answer}
use Rattle.model.specs.Host.{Step}
use Rattle.model.specs.State.{replied}
use Rattle.model.specs.declared.session.Session.{Session}

-- what was sent: the streams in order, their octets one packet after the other, and what is common after it
pub record Sending : Type 0 where
  pub common : Common
  pub streams : List ℕ
  pub octets : List ℕ

abbrev pub idle : Common → Sending
idle c = record { common = c; streams = []; octets = [] }

-- packets stand one behind the other
abbrev pub then : Sending → (Common → Sending) → Sending
then s f =
    record { common = (f s.common).common; streams = s.streams ++ (f s.common).streams; octets = s.octets ++ (f s.common).octets }

-- the level in dB that the packets carry: 0 with attenuation off
abbrev pub level : Option Controller → ℕ
level None = 0
level (Some controller) = controller.db

-- a stream's next count
abbrev pub count_of : Stream → Common → ℕ
count_of k c = slice_index c.seq (offset_of k)

-- the next packet of a stream; run matters for high priority alone
unfoldable pub packet_of : Stream → Bool → Common → List ℕ
packet_of General run c = general_packet (count_of General c) c.settings.board
packet_of RxSpecific run c = rx_packet (count_of RxSpecific c) c.settings.board c.tuning.rate_khz
packet_of TxSpecific run c = tx_packet (count_of TxSpecific c)
packet_of HighPriority run c =
    high_packet (count_of HighPriority c) run c.tuning.phase_word c.tuning.alex.alex0 c.tuning.alex.alex1 (level c.attenuation)

-- a stream's own count goes up by one, modulo 2^32; the other three stay
abbrev pub raised : List ℕ → ℕ → List ℕ
raised counts at = slice_set counts at ((slice_index counts at + 1) % 2 ^ 32)

unfoldable pub send : Stream → Bool → Common → Sending
send k run c =
    record { common = with_seq c (raised c.seq (offset_of k)); streams = offset_of k ∷ []; octets = packet_of k run c }

-- ---- keepalives whose interval has passed, in nanoseconds

abbrev pub high_every : ℕ
high_every = 100000000

abbrev pub rx_tx_every : ℕ
rx_tx_every = 200000000

abbrev pub general_every : ℕ
general_every = 800000000

unfoldable pub send_high : ℕ → Common → Sending
send_high now c = send HighPriority true (with_clocks c (with_high_priority c.clocks now))

unfoldable pub send_rx_tx : ℕ → Common → Sending
send_rx_tx now c =
    then (send RxSpecific true (with_clocks c (with_rx_tx_specific c.clocks now))) (λ (d : Common). send TxSpecific true d)

unfoldable pub send_general : ℕ → Common → Sending
send_general now c = send General true (with_clocks c (with_general c.clocks now))

unfoldable pub high_if_due : ℕ → Common → Sending
high_if_due now c = pick (nat_le high_every (now - c.clocks.high_priority)) (send_high now c) (idle c)

unfoldable pub rx_tx_if_due : ℕ → Common → Sending
rx_tx_if_due now c = pick (nat_le rx_tx_every (now - c.clocks.rx_tx_specific)) (send_rx_tx now c) (idle c)

unfoldable pub general_if_due : ℕ → Common → Sending
general_if_due now c = pick (nat_le general_every (now - c.clocks.general)) (send_general now c) (idle c)

-- the shortest interval first
unfoldable pub keepalive : ℕ → Common → Sending
keepalive now c = then (high_if_due now c) (λ (d : Common). then (rx_tx_if_due now d) (general_if_due now))

-- ---- the attenuator

-- a step's high priority packet, with the new level, which restarts the 100 ms
unfoldable pub applied : ℕ → Option AttenuationStep → Common → Sending
applied now None c = idle c
applied now (Some s) c = send_high now c

-- what the controller made of a reading or a status packet; its packet's clock takes `now`
unfoldable pub stepped : ℕ → Stepped → Common → Sending
stepped now s c = applied now s.step (with_attenuation c (Some s.controller))

-- a step down; with attenuation off there is none
unfoldable pub tick : ℕ → Option Controller → Common → Sending
tick now None c = idle c
tick now (Some controller) c = stepped now (ticked controller now) c

-- Pass: keepalives, then an attenuation step's packet
unfoldable pub due_packets : ℕ → Common → Sending
due_packets now c = then (keepalive now c) (λ (d : Common). tick now d.attenuation d)

-- Close turns run off, by two high priority packets
unfoldable pub stop_packets : Common → Sending
stop_packets c = then (send HighPriority false c) (λ (d : Common). send HighPriority false d)

-- ---- what a call that wrote them gives: they fill the lent buffer from its front
abbrev pub wrote : Answer → Session → List ℕ → Sending → Step Session
wrote answer s d out = replied answer out.streams (written d 0 out.octets) [] (with_common s out.common)
