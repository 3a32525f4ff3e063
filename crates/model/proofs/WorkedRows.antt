-- Worked cases of the settings' rows: of all that apply the first is told. Values by hand from 01, 2026-01 and 2026-03; those of
-- lists/settings are the Rust's too. Assumes nothing.
use Rattle.std.proofs.Common.{ℕ, false, List, [], ◌∷◌, pos, refl}
use lib.Ieee.{Float, nan, inf, fin, lt, eq, of_int}
use Rattle.base.specs.Cases.{Case, case, Hold}
use Rattle.base.specs.Pick.{pick}
use Rattle.base.specs.Told.{Told, gives, refused}
use Rattle.double.specs.Whole.{nat_of, is_whole}
use Rattle.tuning.specs.Centre.{whole_centre, below_nyquist}
use Rattle.tuning.specs.Rate.{is_doubled, is_rate, khz_of}
use Rattle.model.specs.Edges.{Given, told}
use Rattle.model.specs.Lists.{khz48, mhz7, usual}
use Rattle.model.specs.Settings.{settings_told}

abbrev settings : ℕ → ℕ → Float → Float → ℕ → Told → Case Given
settings receivers centres rate centre port is =
    case
    (told
    (settings_told
    (record {
      ddc_count = receivers;
      center_count = centres;
      sample_rate_hz = rate;
      center_freq_hz = centre;
      port = port;
      radio_ip = usual.radio_ip;
      board = usual.board;
      attenuation = usual.attenuation;
      soft_after = 0;
      stall_after = 0;
      park_window = 0;
      max_consecutive_malformed = 0;
    })))
    (told is)

abbrev pub row_cases : List (Case Given)
row_cases =
    settings 1 1 khz48 mhz7 1 (gives (48 ∷ []))
    ∷ settings 2 2 nan nan 65535 (refused 1 [])
    ∷ settings 0 1 khz48 mhz7 1 (refused 1 [])
    ∷ settings 1 2 nan nan 65535 (refused 2 [])
    ∷ settings 1 0 khz48 mhz7 1 (refused 2 [])
    ∷ settings 1 1 nan nan 65535 (refused 3 [])
    -- 384,000 and 768,000 Hz, and 24,000
    ∷ settings 1 1 (fin false 375 (pos 10)) mhz7 1 (gives (384 ∷ []))
    ∷ settings 1 1 (fin false 375 (pos 11)) mhz7 1 (refused 3 [])
    ∷ settings 1 1 (fin false 375 (pos 6)) mhz7 1 (refused 3 [])
    -- an infinite centre is 4, not 5
    ∷ settings 1 1 khz48 (inf false) 65535 (refused 4 [])
    ∷ settings 1 1 khz48 nan 65535 (refused 4 [])
    -- 61,440,000 Hz, and 1 Hz less
    ∷ settings 1 1 khz48 (fin false 61440000 (pos 0)) 65535 (refused 5 [])
    ∷ settings 1 1 khz48 (fin false 61439999 (pos 0)) 65535 (refused 6 [])
    ∷ settings 1 1 khz48 mhz7 65535 (refused 6 [])
    -- port 0 alone, and with each row before it beside it
    ∷ settings 1 1 khz48 mhz7 0 (refused 19 [])
    ∷ settings 2 1 khz48 mhz7 0 (refused 1 [])
    ∷ settings 1 2 khz48 mhz7 0 (refused 2 [])
    ∷ settings 1 1 nan mhz7 0 (refused 3 [])
    ∷ settings 1 1 khz48 nan 0 (refused 4 [])
    ∷ settings 1 1 khz48 (fin false 61440000 (pos 0)) 0 (refused 5 [])
    ∷ []

pub rows-hold : Hold row_cases
unfolding pick settings_told is_rate is_doubled khz_of nat_of eq of_int whole_centre below_nyquist is_whole lt
rows-hold = refl
