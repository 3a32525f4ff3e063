-- The four command packets: named fields over zeros, in 01's order. Definitions only.
use Rattle.std.specs.Prelude.{⊤, ℕ, min, Bool, cond, ◌≡◌, List, [], ◌∷◌, length, ltb, Result, Ok, Err}
use Rattle.wire.specs.declared.packet.PacketError.{PacketError}
use Rattle.wire.specs.declared.packet.PacketError.TheVariants.{NoRoom}
use Rattle.base.specs.Pick.{pick}
use Rattle.octets.specs.Written.{written}
use Rattle.octets.specs.Packet.{Field, field, packet}
use Rattle.base.specs.Told.{Told, gives, refused}
use Rattle.tuning.specs.declared.board.BoardInfo.{BoardInfo}

-- every command starts with its count
abbrev pub count : ℕ → Field
count seq = field 0 4 seq

-- General, 60: 37 = 8, 38 = 1, 59 = filter enable
abbrev pub general_fields : ℕ → BoardInfo → List Field
general_fields seq board = count seq ∷ field 37 1 8 ∷ field 38 1 1 ∷ field 59 1 board.filter_enable ∷ []

unfoldable pub general_packet : ℕ → BoardInfo → List ℕ
general_packet seq board = packet 60 (general_fields seq board)

-- Receive, 1444: 4 = ADCs, 7 = 1, 18 to 19 = rate in kHz, 22 = 24
abbrev pub rx_fields : ℕ → BoardInfo → ℕ → List Field
rx_fields seq board khz = count seq ∷ field 4 1 board.adc_count ∷ field 7 1 1 ∷ field 18 2 khz ∷ field 22 1 24 ∷ []

unfoldable pub rx_packet : ℕ → BoardInfo → ℕ → List ℕ
rx_packet seq board khz = packet 1444 (rx_fields seq board khz)

-- Transmit, 60: 4 = 1
abbrev pub tx_fields : ℕ → List Field
tx_fields seq = count seq ∷ field 4 1 1 ∷ []

unfoldable pub tx_packet : ℕ → List ℕ
tx_packet seq = packet 60 (tx_fields seq)

-- High priority, 1444: 4 = run, 9 and 329 = phase word, 1428 Alex1, 1432 Alex0, 1443 = attenuation, at most 31
abbrev pub high_fields : ℕ → Bool → ℕ → ℕ → ℕ → ℕ → List Field
high_fields seq run phase alex0 alex1 db =
    count seq ∷ field 4 1 (cond run 1 0) ∷ field 9 4 phase ∷ field 329 4 phase ∷ field 1428 4 alex1 ∷ field 1432 4 alex0 ∷ field 1443 1 (min db 31) ∷ []

unfoldable pub high_packet : ℕ → Bool → ℕ → ℕ → ℕ → ℕ → List ℕ
high_packet seq run phase alex0 alex1 db = packet 1444 (high_fields seq run phase alex0 alex1 db)

abbrev pub packet_answer : Result ⊤ PacketError → Told
packet_answer (Ok u) = gives []
packet_answer (Err NoRoom) = refused 15 []

-- out, of n octets, was to be written to the front of d, and e is what it then held: 15 where d is shorter, and d stays as it was
pub record Sent (n : ℕ) (out d : List ℕ) (r : Result ⊤ PacketError) (e : List ℕ) : Type 0 where
  pub answer : packet_answer r ≡ pick (ltb (length d) n) (refused 15 []) (gives [])
  pub holds : e ≡ pick (ltb (length d) n) d (written d 0 out)
