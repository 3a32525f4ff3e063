-- What the host's writers write, the radio reads back: each of the four packets is accepted, and its count and fields are kept. Assumes
-- nothing.
use Prim.Native.Nat.{ℕ, ◌^◌, ◌<◌, min}
use mathlib.Core.Path.{◌≡◌, refl, sym, ap, ◌∙◌, subst}
use mathlib.Core.Bool.{Bool, true, false, cond}
use mathlib.Core.List.{List, []}
use native.Mathlib.Omega.{arith}
use lib.ListN.{length}
use lib.Dec.{T, leb, eqb}
use lib.Ieee.Bits.{is_true}
use borrow.Author.Tests.{eq-eqb, le-leb}
use Rattle.base.specs.Pick.{pick}
use Rattle.base.specs.Told.{gives}
use Rattle.octets.specs.Packet.{Field, packet}
use Rattle.octets.specs.Order.{same}
use Rattle.octets.proofs.Orders.{same_refl}
use Rattle.tuning.specs.Rate.{is_rate_khz}
use Rattle.tuning.specs.declared.board.BoardInfo.{BoardInfo}
use Rattle.wire.specs.Command.{size_of}
use Rattle.wire.specs.Packet.{general_fields, general_packet, rx_fields, rx_packet, tx_fields, tx_packet, high_fields, high_packet}
use Rattle.wire.specs.declared.command.Stream.{Stream}
use Rattle.wire.specs.declared.command.Stream.TheVariants.{General, RxSpecific, TxSpecific, HighPriority}
use Rattle.wire.proofs.ReadBack.{general-length, general-reads, rx-length, rx-reads, tx-length, tx-reads, high-length, high-reads}
use Rattle.radio.specs.Answer.{outcome}
use Rattle.radio.specs.State.{with_general, with_rx_specific, with_tx_specific, with_high_priority}
use Rattle.radio.specs.Command.{named, plain, valued, kept, command_read, high_priority_in}
use Rattle.radio.specs.declared.state.HighPriority as state
use Rattle.radio.specs.declared.state.Radio.{Radio}

-- a packet as long as its stream's, with its fixed octets and values, is kept
of_right : (r : Radio) (k : Stream) (p : List ℕ) → length p ≡ size_of k → plain k p ≡ true → valued k p ≡ true → outcome (gives []) (kept k p r) ≡ command_read r k p
unfolding command_read pick
of_right r k p e h v = rw (eq-eqb (length p) (size_of k) e, h, v) refl

-- a packet of fields that are those which the radio finds named in it
plain_of : (k : Stream) (p : List ℕ) (fs : List Field) → p ≡ packet (size_of k) fs → named k p ≡ fs → plain k p ≡ true
unfolding plain
plain_of k p fs e n = is_true _ (subst (λ (l : List ℕ). T (same p l)) (e ∙ ap (packet (size_of k)) (sym n)) (same_refl p))

module _ (r : Radio) (seq : ℕ) (small : seq < 2 ^ 32) where
  module _ (board : BoardInfo) (filters : board.filter_enable < 256) where
    abbrev p1 : List ℕ
    p1 = general_packet seq board

    pub general-read : command_read r General (general_packet seq board) ≡ outcome (gives []) (with_general r (record { seq = seq; filter_enable = board.filter_enable }))
    unfolding general_packet
    general-read =
        let f = general-reads seq board small filters in
        let n : named General p1 ≡ general_fields seq board = rw (f.0, f.1.1.1.0) in
        sym (of_right r General p1 (general-length seq board) (plain_of General p1 (general_fields seq board) refl n) refl)
        ∙ rw (f.0, f.1.1.1.0)

  module _ (board : BoardInfo) (khz : ℕ) (adcs : board.adc_count < 256) (width : khz < 2 ^ 16) (rate : is_rate_khz khz ≡ true) where
    abbrev p2 : List ℕ
    p2 = rx_packet seq board khz

    pub rx-read : command_read r RxSpecific (rx_packet seq board khz) ≡ outcome (gives []) (with_rx_specific r (record { seq = seq; adc_count = board.adc_count; rate_khz = khz }))
    unfolding rx_packet
    rx-read =
        let f = rx-reads seq board khz small adcs width in
        let n : named RxSpecific p2 ≡ rx_fields seq board khz = rw (f.0, f.1.0, f.1.1.1.0) in
        sym (of_right r RxSpecific p2 (rx-length seq board khz) (plain_of RxSpecific p2 (rx_fields seq board khz) refl n) (ap is_rate_khz f.1.1.1.0 ∙ rate))
        ∙ rw (f.0, f.1.0, f.1.1.1.0)

  abbrev p3 : List ℕ
  p3 = tx_packet seq

  pub tx-read : command_read r TxSpecific (tx_packet seq) ≡ outcome (gives []) (with_tx_specific r (record { seq = seq }))
  unfolding tx_packet
  tx-read =
      let f = tx-reads seq small in
      let n : named TxSpecific p3 ≡ tx_fields seq = rw f.0 in
      sym (of_right r TxSpecific p3 (tx-length seq) (plain_of TxSpecific p3 (tx_fields seq) refl n) refl)
      ∙ rw f.0

  module _ (run : Bool) (phase alex0 alex1 db : ℕ) (a : phase < 2 ^ 32) (b : alex0 < 2 ^ 32) (c : alex1 < 2 ^ 32) where
    abbrev p4 : List ℕ
    p4 = high_packet seq run phase alex0 alex1 db

    abbrev held : Bool → state.HighPriority
    held on = record { seq = seq; run = on; ddc_phase = phase; duc_phase = phase; alex1 = alex1; alex0 = alex0; attenuation = min db 31 }

    run_small : (run : Bool) → leb (cond run 1 0) 1 ≡ true
    run_small true = refl
    run_small false = refl

    run-back : (run : Bool) → eqb (cond run 1 0) 1 ≡ run
    run-back true = refl
    run-back false = refl

    pub high_read : command_read r HighPriority (high_packet seq run phase alex0 alex1 db) ≡ outcome (gives []) (with_high_priority r (held run))
    unfolding high_packet
    high_read =
        let f = high-reads seq run phase alex0 alex1 db small a b c in
        let n : named HighPriority p4 ≡ high_fields seq run phase alex0 alex1 db = rw (f.0, f.1.0, f.1.1.0, f.1.1.1.0, f.1.1.1.1.0, f.1.1.1.1.1.0, f.1.1.1.1.1.1.0) in
        let v : valued HighPriority p4 ≡ true = rw (f.1.0, f.1.1.0, f.1.1.1.0, f.1.1.1.1.1.1.0, run_small run, eq-eqb phase phase refl) (le-leb (min db 31) 31 (omega arith)) in
        let read-fields : outcome (gives []) (with_high_priority r (high_priority_in p4)) ≡ outcome (gives []) (with_high_priority r (held (eqb (cond run 1 0) 1))) = rw (f.0, f.1.0, f.1.1.0, f.1.1.1.0, f.1.1.1.1.0, f.1.1.1.1.1.0, f.1.1.1.1.1.1.0) in
        sym (of_right r HighPriority p4 (high-length seq run phase alex0 alex1 db) (plain_of HighPriority p4 (high_fields seq run phase alex0 alex1 db) refl n) v)
        ∙ read-fields
        ∙ ap (λ (on : Bool). outcome (gives []) (with_high_priority r (held on))) (run-back run)
