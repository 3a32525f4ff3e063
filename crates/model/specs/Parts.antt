-- The parts of a session with one of them changed: made by tools/setters.py. Definitions only.
use Rattle.std.specs.Prelude.{ℕ, Bool, List, Option}
use Rattle.sequence.specs.declared.SeqTracker.{SeqTracker}
use Rattle.stall.specs.declared.StallEpisode.{StallEpisode}
use Rattle.attenuator.specs.declared.Controller.{Controller}
use Rattle.health.specs.declared.InputHealthCounters.{InputHealthCounters}
use Rattle.model.specs.declared.receiver.Reading.{Reading}
use Rattle.model.specs.declared.receiver.Pending.{Pending}
use Rattle.model.specs.declared.receiver.Receiver.{Receiver}
use Rattle.model.specs.declared.receiver.Parked.{Parked}
use Rattle.model.specs.declared.session.Clocks.{Clocks}
use Rattle.model.specs.declared.session.Common.{Common}
use Rattle.model.specs.declared.session.Session.{Session}

abbrev pub with_wait_entered : Reading → Option ℕ → Reading
with_wait_entered s x =
    record { wait_entered = x; entered = s.entered }

abbrev pub with_entered : Reading → Option ℕ → Reading
with_entered s x =
    record { wait_entered = s.wait_entered; entered = x }

abbrev pub with_missing : Pending → Option ℕ → Pending
with_missing s x =
    record { missing = x; discontinuity = s.discontinuity }

abbrev pub with_discontinuity : Pending → Option ℕ → Pending
with_discontinuity s x =
    record { missing = s.missing; discontinuity = x }

abbrev pub with_tracker : Receiver → SeqTracker → Receiver
with_tracker s x =
    record { tracker = x; queue_pos = s.queue_pos; reading = s.reading; parked = s.parked; pending = s.pending; last_valid_iq = s.last_valid_iq; last_accepted_iq = s.last_accepted_iq; read_returned = s.read_returned; stall = s.stall }

abbrev pub with_queue_pos : Receiver → ℕ → Receiver
with_queue_pos s x =
    record { tracker = s.tracker; queue_pos = x; reading = s.reading; parked = s.parked; pending = s.pending; last_valid_iq = s.last_valid_iq; last_accepted_iq = s.last_accepted_iq; read_returned = s.read_returned; stall = s.stall }

abbrev pub with_reading : Receiver → Reading → Receiver
with_reading s x =
    record { tracker = s.tracker; queue_pos = s.queue_pos; reading = x; parked = s.parked; pending = s.pending; last_valid_iq = s.last_valid_iq; last_accepted_iq = s.last_accepted_iq; read_returned = s.read_returned; stall = s.stall }

abbrev pub with_parked : Receiver → Option Parked → Receiver
with_parked s x =
    record { tracker = s.tracker; queue_pos = s.queue_pos; reading = s.reading; parked = x; pending = s.pending; last_valid_iq = s.last_valid_iq; last_accepted_iq = s.last_accepted_iq; read_returned = s.read_returned; stall = s.stall }

abbrev pub with_pending : Receiver → Pending → Receiver
with_pending s x =
    record { tracker = s.tracker; queue_pos = s.queue_pos; reading = s.reading; parked = s.parked; pending = x; last_valid_iq = s.last_valid_iq; last_accepted_iq = s.last_accepted_iq; read_returned = s.read_returned; stall = s.stall }

abbrev pub with_last_valid_iq : Receiver → ℕ → Receiver
with_last_valid_iq s x =
    record { tracker = s.tracker; queue_pos = s.queue_pos; reading = s.reading; parked = s.parked; pending = s.pending; last_valid_iq = x; last_accepted_iq = s.last_accepted_iq; read_returned = s.read_returned; stall = s.stall }

abbrev pub with_last_accepted_iq : Receiver → ℕ → Receiver
with_last_accepted_iq s x =
    record { tracker = s.tracker; queue_pos = s.queue_pos; reading = s.reading; parked = s.parked; pending = s.pending; last_valid_iq = s.last_valid_iq; last_accepted_iq = x; read_returned = s.read_returned; stall = s.stall }

abbrev pub with_read_returned : Receiver → ℕ → Receiver
with_read_returned s x =
    record { tracker = s.tracker; queue_pos = s.queue_pos; reading = s.reading; parked = s.parked; pending = s.pending; last_valid_iq = s.last_valid_iq; last_accepted_iq = s.last_accepted_iq; read_returned = x; stall = s.stall }

abbrev pub with_stall : Receiver → StallEpisode → Receiver
with_stall s x =
    record { tracker = s.tracker; queue_pos = s.queue_pos; reading = s.reading; parked = s.parked; pending = s.pending; last_valid_iq = s.last_valid_iq; last_accepted_iq = s.last_accepted_iq; read_returned = s.read_returned; stall = x }

abbrev pub with_high_priority : Clocks → ℕ → Clocks
with_high_priority s x =
    record { high_priority = x; rx_tx_specific = s.rx_tx_specific; general = s.general }

abbrev pub with_rx_tx_specific : Clocks → ℕ → Clocks
with_rx_tx_specific s x =
    record { high_priority = s.high_priority; rx_tx_specific = x; general = s.general }

abbrev pub with_general : Clocks → ℕ → Clocks
with_general s x =
    record { high_priority = s.high_priority; rx_tx_specific = s.rx_tx_specific; general = x }

abbrev pub with_seq : Common → List ℕ → Common
with_seq s x =
    record { settings = s.settings; tuning = s.tuning; seq = x; clocks = s.clocks; attenuation = s.attenuation; health = s.health; consecutive_malformed = s.consecutive_malformed; last_reading = s.last_reading; closed = s.closed }

abbrev pub with_clocks : Common → Clocks → Common
with_clocks s x =
    record { settings = s.settings; tuning = s.tuning; seq = s.seq; clocks = x; attenuation = s.attenuation; health = s.health; consecutive_malformed = s.consecutive_malformed; last_reading = s.last_reading; closed = s.closed }

abbrev pub with_attenuation : Common → Option Controller → Common
with_attenuation s x =
    record { settings = s.settings; tuning = s.tuning; seq = s.seq; clocks = s.clocks; attenuation = x; health = s.health; consecutive_malformed = s.consecutive_malformed; last_reading = s.last_reading; closed = s.closed }

abbrev pub with_health : Common → InputHealthCounters → Common
with_health s x =
    record { settings = s.settings; tuning = s.tuning; seq = s.seq; clocks = s.clocks; attenuation = s.attenuation; health = x; consecutive_malformed = s.consecutive_malformed; last_reading = s.last_reading; closed = s.closed }

abbrev pub with_consecutive_malformed : Common → ℕ → Common
with_consecutive_malformed s x =
    record { settings = s.settings; tuning = s.tuning; seq = s.seq; clocks = s.clocks; attenuation = s.attenuation; health = s.health; consecutive_malformed = x; last_reading = s.last_reading; closed = s.closed }

abbrev pub with_last_reading : Common → ℕ → Common
with_last_reading s x =
    record { settings = s.settings; tuning = s.tuning; seq = s.seq; clocks = s.clocks; attenuation = s.attenuation; health = s.health; consecutive_malformed = s.consecutive_malformed; last_reading = x; closed = s.closed }

abbrev pub with_closed : Common → Bool → Common
with_closed s x =
    record { settings = s.settings; tuning = s.tuning; seq = s.seq; clocks = s.clocks; attenuation = s.attenuation; health = s.health; consecutive_malformed = s.consecutive_malformed; last_reading = s.last_reading; closed = x }

abbrev pub with_common : Session → Common → Session
with_common s x =
    record { common = x; receiver = s.receiver }

abbrev pub with_receiver : Session → Receiver → Session
with_receiver s x =
    record { common = s.common; receiver = x }
