-- The rates that are accepted, and what a receive packet writes for each: 01's row 3, by the formula of 2026-03. Definitions only.
use Rattle.std.specs.Prelude.{ℕ, zero, suc, ◌*◌, ◌/◌, ◌^◌, ◌≤◌, Bool, false, ◌||◌, [], ◌∷◌, pos, Float, Option, Some, None}
use Rattle.std.specs.Float.{binary64}
use Rattle.std.specs.Float.Ieee.{of_int, eq}
use Rattle.std.specs.Float.Ieee.Exact.{HasValue}
use Rattle.base.specs.Pick.{pick}
use Rattle.base.specs.Told.{Told, gives, refused}
use Rattle.double.specs.Whole.{floor_of}

-- in Hz
abbrev pub lowest_rate : ℕ
lowest_rate = 48000

-- how often it may be doubled
abbrev pub most_doublings : ℕ
most_doublings = 3

-- whether a rate is so many Hz
abbrev pub is_hz : ℕ → Float → Bool
is_hz hz x = eq (of_int binary64 (pos hz)) x

-- whether it is so many Hz, doubled none to n times
unfoldable pub is_doubled : ℕ → ℕ → Float → Bool
is_doubled zero hz x = is_hz hz x
is_doubled (suc n) hz x = is_hz hz x || is_doubled n (hz * 2) x

-- 3 unless: it is the lowest rate, doubled none to the most times
unfoldable pub is_rate : Float → Bool
is_rate x = is_doubled most_doublings lowest_rate x

-- the kHz of an accepted rate
unfoldable pub khz_of : Float → ℕ
khz_of x = floor_of x / 1000

-- whether so many kHz, as a receive packet writes them, are an accepted rate
unfoldable pub is_rate_khz : ℕ → Bool
is_rate_khz khz = is_rate (of_int binary64 (pos (khz * 1000)))

unfoldable pub rate_told : Float → Told
rate_told x = pick (is_rate x) (gives (khz_of x ∷ [])) (refused 3 [])

abbrev pub rate_answer : Option ℕ → Told
rate_answer (Some khz) = gives (khz ∷ [])
rate_answer None = refused 3 []

-- ---- what passes, in the request's words and with no test of a double (`rate-exactly`)

-- the lowest rate, doubled n times, and n is none to the most
pub record Doubled (x : Float) (n : ℕ) : Type 0 where
  pub few : n ≤ most_doublings
  pub value : HasValue x false (lowest_rate * 2 ^ n) 1
