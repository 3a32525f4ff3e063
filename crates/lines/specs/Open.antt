-- `open`: its settings, and what each is where it is left out. Definitions only.
use Rattle.std.specs.Prelude.{ℕ, ◌≤◌, ◌<◌, List, [], ◌∷◌, ltb, nat_lt, ◌==◌, if◌then◌else◌, pos, Float, length, get_or, Option, Some, None, Ok, Err}
use Rattle.std.specs.Float.{binary64}
use Rattle.std.specs.Float.Ieee.{of_int, of_bits, to_bits}
use Rattle.base.specs.Pick.{pick}
use Rattle.tuning.specs.Board.{board_info}
use Rattle.model.specs.declared.settings.Settings.{Settings}
use Rattle.model.specs.declared.settings.AttenuationChoice.{AttenuationChoice}
use Rattle.model.specs.declared.settings.AttenuationChoice.TheVariants.{Off, On, Unsaid}
use Rattle.lines.specs.declared.Endpoint.{Endpoint}
use Rattle.lines.specs.declared.Expected.{Expected}
use Rattle.lines.specs.declared.Opening.{Opening}
use Rattle.lines.specs.Key.{settings, at_key, receivers_key, centres_key, rate_key, centre_key, port_key, radio_key, board_key, attenuation_key, soft_key, hard_key, window_key, malformed_key, key_count, unsaid}
use Rattle.lines.specs.declared.name.Name.{Name}
use Rattle.lines.specs.declared.name.Name.TheVariants.{Open}
use Rattle.lines.specs.Name.{name_of, is}
use Rattle.lines.specs.Option.{limit, Took, expected_of, options_took, options_values}
use Rattle.lines.specs.Call.{longest, words_of, or_else}

-- a whole number's double, as its bits
abbrev pub bits_of : ℕ → ℕ
bits_of n = to_bits binary64 (of_int binary64 (pos n))

abbrev pub double_or : List (Option ℕ) → ℕ → ℕ → Float
double_or l key other = of_bits binary64 (or_else l key other)

abbrev pub board_id : ℕ → Option ℕ
board_id n = if nat_lt n 256 then Some n else None

-- by its place among the words that spell it, where the key is said
abbrev pub choice : Option ℕ → AttenuationChoice
choice None = Unsaid
choice (Some place) = if place == 0 then Off else if place == 1 then On else Unsaid

-- 10.0.0.2, 4500 ms and 10 s are the address and the stall times that are left out
unfoldable pub settings_of : List (Option ℕ) → Settings
settings_of l =
    record {
      ddc_count = or_else l receivers_key 1;
      center_count = or_else l centres_key 1;
      sample_rate_hz = double_or l rate_key (bits_of 48000);
      center_freq_hz = double_or l centre_key (bits_of 7000000);
      port = or_else l port_key 1024;
      radio_ip = or_else l radio_key 167772162;
      board = board_info (board_id (or_else l board_key 1));
      attenuation = choice (get_or l attenuation_key None);
      soft_after = or_else l soft_key 4500000000;
      stall_after = or_else l hard_key 10000000000;
      park_window = or_else l window_key 8192;
      max_consecutive_malformed = or_else l malformed_key 10000;
    }

-- every value is within its key's limit
abbrev pub Within : List (Option ℕ) → Type 0
Within l = (k : ℕ) → k < key_count → or_else l k 0 ≤ limit k

-- where the radio is
abbrev pub radio_of : Settings → Endpoint
radio_of s = record { ip = s.radio_ip; port = s.port }

-- what can't be read has the settings of an `open` that says none
abbrev pub unread_opening : Expected → Opening
unread_opening e = record { read = Err e; at = 0; settings = settings_of unsaid }

unfoldable pub opened : Took → List (Option ℕ) → Opening
opened (Ok u) l = record { read = Ok tt; at = or_else l at_key 0; settings = settings_of l }
opened (Err x) l = unread_opening (expected_of x Expected.Setting)

unfoldable pub opened_by : List (List ℕ) → Opening
opened_by ws = opened (options_took settings key_count unsaid ws) (options_values unsaid ws)

unfoldable pub open_as : Option Name → List (List ℕ) → Opening
open_as None ws = unread_opening Expected.Open
open_as (Some name) ws = pick (is name Open) (opened_by ws) (unread_opening Expected.Open)

unfoldable pub open_words : List (List ℕ) → Opening
open_words [] = unread_opening Expected.Open
open_words (w ∷ ws) = open_as (name_of w) ws

unfoldable pub opening_of : List ℕ → Opening
opening_of line = pick (ltb longest (length line)) (unread_opening Expected.ShorterLine) (open_words (words_of line))
