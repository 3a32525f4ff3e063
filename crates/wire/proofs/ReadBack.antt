-- What a radio's end reads of the four packets: their lengths, each field's value, and the drive, which no field names. Assumes nothing.
use Prim.Native.Nat.{ℕ, ◌^◌, ◌<◌}
use mathlib.Core.Bool.{Bool}
use mathlib.Core.Path.{◌≡◌}
use lib.ListN.{length, get_or}
use native.Mathlib.Omega.{arith}
use Rattle.octets.specs.Number.{be_at}
use Rattle.base.specs.Each.{Each}
use Rattle.octets.proofs.Packets.{length-packet, read-exact, unnamed}
use Rattle.wire.specs.Packet.{general_fields, general_packet, rx_fields, rx_packet, tx_fields, tx_packet, high_fields, high_packet}
use Rattle.tuning.specs.declared.board.BoardInfo.{BoardInfo}
use Rattle.wire.proofs.Writers.{run-octet}

module _ (seq : ℕ) (board : BoardInfo) where
  pub general-length : length (general_packet seq board) ≡ 60
  unfolding general_packet
  general-length = length-packet 60 (general_fields seq board) tt

  pub general-reads : seq < 2 ^ 32 → board.filter_enable < 256
      → Each (λ f. be_at f.width (general_packet seq board) f.at ≡ f.value) (general_fields seq board)
  unfolding general_packet
  general-reads s e = read-exact 60 (general_fields seq board) tt tt (omega arith, (omega arith, (omega arith, (omega arith, tt))))

module _ (seq : ℕ) (board : BoardInfo) (khz : ℕ) where
  pub rx-length : length (rx_packet seq board khz) ≡ 1444
  unfolding rx_packet
  rx-length = length-packet 1444 (rx_fields seq board khz) tt

  pub rx-reads : seq < 2 ^ 32 → board.adc_count < 256 → khz < 2 ^ 16
      → Each (λ f. be_at f.width (rx_packet seq board khz) f.at ≡ f.value) (rx_fields seq board khz)
  unfolding rx_packet
  rx-reads s a k = read-exact 1444 (rx_fields seq board khz) tt tt (omega arith, (omega arith, (omega arith, (omega arith, (omega arith, tt)))))

module _ (seq : ℕ) where
  pub tx-length : length (tx_packet seq) ≡ 60
  unfolding tx_packet
  tx-length = length-packet 60 (tx_fields seq) tt

  pub tx-reads : seq < 2 ^ 32 → Each (λ f. be_at f.width (tx_packet seq) f.at ≡ f.value) (tx_fields seq)
  unfolding tx_packet
  tx-reads s = read-exact 60 (tx_fields seq) tt tt (omega arith, (omega arith, tt))

module _ (seq : ℕ) (run : Bool) (phase alex0 alex1 db : ℕ) where
  pub high-length : length (high_packet seq run phase alex0 alex1 db) ≡ 1444
  unfolding high_packet
  high-length = length-packet 1444 (high_fields seq run phase alex0 alex1 db) tt

  pub high-reads : seq < 2 ^ 32 → phase < 2 ^ 32 → alex0 < 2 ^ 32 → alex1 < 2 ^ 32
      → Each (λ f. be_at f.width (high_packet seq run phase alex0 alex1 db) f.at ≡ f.value) (high_fields seq run phase alex0 alex1 db)
  unfolding high_packet
  high-reads s p a b =
      read-exact 1444 (high_fields seq run phase alex0 alex1 db) tt tt
      (omega arith, (run-octet run, (omega arith, (omega arith, (omega arith, (omega arith, (omega arith, tt)))))))

  -- nobody transmits
  pub drive-zero : get_or (high_packet seq run phase alex0 alex1 db) 345 0 ≡ 0
  unfolding high_packet
  drive-zero = unnamed 1444 (high_fields seq run phase alex0 alex1 db) 345 tt (omega arith) tt
