-- Settings, datagrams and lists of calls that 01's edges, worked cases and trials are stated with. Definitions only.
use Rattle.std.specs.Prelude.{◌≡◌, ℕ, false, List, [], ◌∷◌, ◌++◌, replicate, pos, refl, Float, Some}
use Rattle.std.specs.Float.{fin, binary64}
use Rattle.std.specs.Float.Ieee.{of_int}
use Rattle.octets.specs.Number.{be}
use Rattle.tuning.specs.Board.{board_info}
use Rattle.model.specs.Host.{Incoming, Call, Begin, Arrival, Take}
use Rattle.model.specs.declared.sender.Sender.{Sender}
use Rattle.model.specs.declared.sender.Sender.TheVariants.{V4}
use Rattle.model.specs.declared.settings.Settings.{Settings}
use Rattle.model.specs.declared.settings.AttenuationChoice.TheVariants.{Unsaid}

-- 48,000 and 7,000,000 Hz, each with its control
abbrev pub khz48 : Float
khz48 = fin false 375 (pos 7)

abbrev pub mhz7 : Float
mhz7 = fin false 109375 (pos 6)

khz48-is : khz48 ≡ of_int binary64 (pos 48000)
unfolding of_int
khz48-is = refl

mhz7-is : mhz7 ≡ of_int binary64 (pos 7000000)
unfolding of_int
mhz7-is = refl

-- 10.0.0.2
abbrev pub radio : ℕ
radio = 0x0a000002

-- the Rust's own stall times, window and malformed limit, at 48 kHz, with a port to choose
abbrev pub usual_at : ℕ → Settings
usual_at port =
    record {
      ddc_count = 1;
      center_count = 1;
      sample_rate_hz = khz48;
      center_freq_hz = mhz7;
      port = port;
      radio_ip = radio;
      board = board_info (Some 1);
      attenuation = Unsaid;
      soft_after = 4500000000;
      stall_after = 10000000000;
      park_window = 8192;
      max_consecutive_malformed = 10000;
    }

abbrev pub usual : Settings
usual = usual_at 1024

-- a valid I/Q datagram with the count n, and its sender
abbrev pub datagram : ℕ → List ℕ
datagram n = be 4 n ++ (replicate 8 0 ++ (be 2 24 ++ (be 2 238 ++ replicate 1428 0)))

abbrev pub ddc0 : Sender
ddc0 = V4 radio 1035

abbrev pub iq_with : ℕ → ℕ → ℕ → List ℕ → Incoming
iq_with now later n waiting = record { now = now; later = later; from = ddc0; octets = datagram n; waiting = waiting }

abbrev pub iq_at : ℕ → ℕ → Incoming
iq_at now n = iq_with now now n []

abbrev pub room : List ℕ
room = replicate 1444 0

abbrev pub silence : List Float
silence = replicate 476 (fin false 0 (pos 0))

-- a read that hears number n, and hands its samples out
abbrev pub read_at : ℕ → ℕ → List Call
read_at now n = Begin now ∷ Arrival (iq_at now n) room ∷ Take now silence ∷ []
