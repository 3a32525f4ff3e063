-- A command packet as the radio reads it, by 01, Packets and fields: what each packet must look like, and what is kept of it. The places
-- are stated here anew, and not taken from the host's writers: that the two agree is a theorem. Definitions only.
use Rattle.std.specs.Prelude.{ℕ, Bool, true, not, ◌&&◌, List, [], ◌∷◌, length, leb, eqb}
use Rattle.base.specs.Rows.{Row, row, unless}
use Rattle.base.specs.Told.{gives, refused}
use Rattle.octets.specs.Number.{be_at}
use Rattle.octets.specs.Packet.{Field, field, packet}
use Rattle.octets.specs.Order.{same}
use Rattle.tuning.specs.Rate.{is_rate_khz}
use Rattle.wire.specs.Command.{size_of}
use Rattle.wire.specs.declared.command.Stream.{Stream}
use Rattle.wire.specs.declared.command.Stream.TheVariants.{General, RxSpecific, TxSpecific, HighPriority}
use Rattle.radio.specs.Answer.{Outcome, outcome}
use Rattle.radio.specs.State.{with_general, with_rx_specific, with_tx_specific, with_high_priority}
use Rattle.radio.specs.declared.state.General as general
use Rattle.radio.specs.declared.state.RxSpecific as rx_specific_of
use Rattle.radio.specs.declared.state.TxSpecific as tx_specific_of
use Rattle.radio.specs.declared.state.HighPriority as high_priority_of
use Rattle.radio.specs.declared.state.Radio.{Radio}

-- ---- the fields that are free: where each stands, and how many octets it has

pub record Place : Type 0 where
  pub at : ℕ
  pub width : ℕ

abbrev pub place : ℕ → ℕ → Place
place at width = record { at = at; width = width }

-- of every packet
abbrev pub seq : Place
seq = place 0 4

-- General
abbrev pub filter_enable_place : Place
filter_enable_place = place 59 1

-- Receive
abbrev pub adc_count_place : Place
adc_count_place = place 4 1

abbrev pub rate_khz_place : Place
rate_khz_place = place 18 2

-- High priority
abbrev pub run : Place
run = place 4 1

abbrev pub ddc_phase_place : Place
ddc_phase_place = place 9 4

abbrev pub duc_phase_place : Place
duc_phase_place = place 329 4

abbrev pub alex1 : Place
alex1 = place 1428 4

abbrev pub alex0 : Place
alex0 = place 1432 4

abbrev pub attenuation : Place
attenuation = place 1443 1

-- what a packet has there
abbrev pub read : Place → List ℕ → ℕ
read x p = be_at x.width p x.at

abbrev pub as_read : Place → List ℕ → Field
as_read x p = field x.at x.width (read x p)

-- ---- what a packet must look like

-- the set of receivers, a bit for each, the lowest bit receiver 0's: receiver 0 alone
abbrev pub receivers : ℕ
receivers = 1

-- the fields that 01 names, in the order of their places: a free one as the packet has it, a fixed one with 01's value
abbrev pub named : Stream → List ℕ → List Field
named General p = as_read seq p ∷ field 37 1 8 ∷ field 38 1 1 ∷ as_read filter_enable_place p ∷ []
named RxSpecific p = as_read seq p ∷ as_read adc_count_place p ∷ field 7 1 receivers ∷ as_read rate_khz_place p ∷ field 22 1 24 ∷ []
named TxSpecific p = as_read seq p ∷ field 4 1 1 ∷ []
named HighPriority p =
    as_read seq p ∷ as_read run p ∷ as_read ddc_phase_place p ∷ as_read duc_phase_place p ∷ as_read alex1 p ∷ as_read alex0 p ∷ as_read attenuation p ∷ []

-- every octet that 01 fixes is as it says: the packet is zeros with these fields stored in them
unfoldable pub plain : Stream → List ℕ → Bool
plain k p = same p (packet (size_of k) (named k p))

-- a free field has a value that it can have: an accepted rate; run off or on, two phase words alike, attenuation at most 31
abbrev pub valued : Stream → List ℕ → Bool
valued General p = true
valued RxSpecific p = is_rate_khz (read rate_khz_place p)
valued TxSpecific p = true
valued HighPriority p = leb (read run p) 1 && (eqb (read ddc_phase_place p) (read duc_phase_place p) && leb (read attenuation p) 31)

-- 20: not as long as the stream's packets; 21: an octet that is fixed, or a value
abbrev pub command_rows : Stream → List ℕ → List Row
command_rows k p = row 20 (not (eqb (length p) (size_of k))) ∷ row 21 (not (plain k p && valued k p)) ∷ []

-- ---- what is kept

abbrev pub general_in : List ℕ → general.General
general_in p = record { seq = read seq p; filter_enable = read filter_enable_place p }

abbrev pub rx_specific_in : List ℕ → rx_specific_of.RxSpecific
rx_specific_in p = record { seq = read seq p; adc_count = read adc_count_place p; rate_khz = read rate_khz_place p }

abbrev pub tx_specific_in : List ℕ → tx_specific_of.TxSpecific
tx_specific_in p = record { seq = read seq p }

abbrev pub high_priority_in : List ℕ → high_priority_of.HighPriority
high_priority_in p =
    record {
      seq = read seq p;
      run = eqb (read run p) 1;
      ddc_phase = read ddc_phase_place p;
      duc_phase = read duc_phase_place p;
      alex1 = read alex1 p;
      alex0 = read alex0 p;
      attenuation = read attenuation p;
    }

-- the stream's count and fields are the packet's, and the other streams' are as they were
abbrev pub kept : Stream → List ℕ → Radio → Radio
kept General p r = with_general r (general_in p)
kept RxSpecific p r = with_rx_specific r (rx_specific_in p)
kept TxSpecific p r = with_tx_specific r (tx_specific_in p)
kept HighPriority p r = with_high_priority r (high_priority_in p)

-- refused, the radio is as it was
unfoldable pub command_read : Radio → Stream → List ℕ → Outcome
command_read r k p = unless (command_rows k p) (λ n. outcome (refused n []) r) (outcome (gives []) (kept k p r))
