-- Open: a session just opened, and the one beside a refusal. Definitions only.
use Rattle.std.specs.Prelude.{ℕ, Bool, true, false, [], ◌∷◌, pos, Option, Some, None}
use Rattle.attenuator.specs.declared.Controller.{Controller}
use Rattle.std.specs.Float.{fin}
use Rattle.stream.specs.Size.{per_datagram}
use Rattle.base.specs.Pick.{pick}
use Rattle.tuning.specs.Alex.{alex_words}
use Rattle.tuning.specs.Phase.{phase_word_of}
use Rattle.tuning.specs.Rate.{khz_of}
use Rattle.tuning.specs.Board.{board_info}
use Rattle.sequence.specs.Tracker as Sequence
use Rattle.attenuator.specs.Controller as Controller
use Rattle.stall.specs.Episode.{unarmed}
use Rattle.health.specs.Counters.{none_counted}
use Rattle.model.specs.Settings.{accepts, attenuates}
use Rattle.model.specs.Parts.{with_common, with_closed}
use Rattle.model.specs.declared.settings.Settings.{Settings}
use Rattle.model.specs.declared.settings.AttenuationChoice.TheVariants as choice
use Rattle.model.specs.declared.receiver.Receiver.{Receiver}
use Rattle.model.specs.declared.session.Tuning.{Tuning}
use Rattle.model.specs.declared.session.Common.{Common}
use Rattle.model.specs.declared.session.Session.{Session}

-- what the packets carry of the settings
unfoldable pub tuned : ℕ → Settings → Tuning
tuned khz s =
    record {
      rate_khz = khz;
      phase_word = phase_word_of s.center_freq_hz;
      alex = alex_words s.board.scheme s.center_freq_hz;
    }

-- attenuation is 0
unfoldable pub attenuation_at : Bool → ℕ → Option Controller
attenuation_at on now = pick on (Some (Controller.opened 0 now Controller.usual)) None

-- the rate is so many kHz; every clock and the last accepted reading are the opening reading, and no stream has sent a packet
unfoldable pub new_common : ℕ → Settings → ℕ → Common
new_common khz s now =
    record {
      settings = s;
      tuning = tuned khz s;
      seq = 0 ∷ 0 ∷ 0 ∷ 0 ∷ [];
      clocks = record { high_priority = now; rx_tx_specific = now; general = now };
      attenuation = attenuation_at (attenuates s) now;
      health = none_counted;
      consecutive_malformed = 0;
      last_reading = now;
      closed = false;
    }

-- nothing is delivered or parked, no number is expected, nothing waits and nothing is pending
unfoldable pub new_receiver : ℕ → Receiver
new_receiver now =
    record {
      tracker = Sequence.new;
      queue_pos = per_datagram;
      reading = record { wait_entered = None; entered = None };
      parked = None;
      pending = record { missing = None; discontinuity = None };
      last_valid_iq = now;
      last_accepted_iq = now;
      read_returned = now;
      stall = unarmed;
    }

-- a session just opened, whose rate is so many kHz
unfoldable pub new_session : ℕ → Settings → ℕ → Session
new_session khz s now = record { common = new_common khz s now; receiver = new_receiver now }

-- the session beside a refusal, whatever was refused: closed, so that each call of it is refused by 10
abbrev pub no_settings : Settings
no_settings =
    record {
      ddc_count = 0;
      center_count = 0;
      sample_rate_hz = fin false 0 (pos 0);
      center_freq_hz = fin false 0 (pos 0);
      port = 0;
      radio_ip = 0;
      board = board_info None;
      attenuation = choice.Off;
      soft_after = 0;
      stall_after = 0;
      park_window = 0;
      max_consecutive_malformed = 0;
    }

unfoldable pub unopened : Session
unopened = with_common (new_session 0 no_settings 0) (with_closed (new_common 0 no_settings 0) true)

-- Open answers `settings_told`, and gives this session
unfoldable pub opened : Settings → ℕ → Session
opened s now = pick (accepts s) (new_session (khz_of s.sample_rate_hz) s now) unopened
