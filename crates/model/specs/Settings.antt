-- The settings: what is answered to them, and what the attenuation choice means. Definitions only.
use Rattle.std.specs.Prelude.{ℕ, ◌≡◌, ◌≤◌, Bool, true, false, [], ◌∷◌, Result, Ok, Err}
use Rattle.model.specs.declared.settings.SettingsError.{SettingsError}
use Rattle.model.specs.declared.settings.SettingsError.TheVariants.{DdcCount, CenterCount, Rate, Center, CenterTooHigh, PortZero, Port}
use Rattle.base.specs.Rows.{unless}
use Rattle.base.specs.Told.{Told, gives, refused}
use Rattle.tuning.specs.Centre.{whole_centre, below_nyquist}
use Rattle.tuning.specs.Rate.{is_rate, khz_of}
use Rattle.model.specs.Table.{settings_rows}
use Rattle.model.specs.declared.settings.Settings.{Settings}
use Rattle.model.specs.declared.settings.AttenuationChoice.{AttenuationChoice}
use Rattle.model.specs.declared.settings.AttenuationChoice.TheVariants.{Off, On, Unsaid}

-- validate_protocol2: by the first row that applies, else the rate in kHz
unfoldable pub settings_told : Settings → Told
settings_told s = unless (settings_rows s) (λ k. refused k []) (gives (khz_of s.sample_rate_hz ∷ []))

abbrev pub is_given : Told → Bool
is_given (gives vs) = true
is_given (refused k vs) = false

-- no row applies
unfoldable pub accepts : Settings → Bool
accepts s = is_given (settings_told s)

-- what rows 1 to 5 leave
pub record Tunable (s : Settings) : Type 0 where
  pub receivers : s.ddc_count ≡ 1
  pub centres : s.center_count ≡ 1
  pub rate : is_rate s.sample_rate_hz ≡ true
  pub whole : whole_centre s.center_freq_hz ≡ true
  pub below : below_nyquist s.center_freq_hz ≡ true

-- what is accepted: that, with a port from 1 to 65,524
pub record Plain (s : Settings) : Type 0 where
  pub tunable : Tunable s
  pub lowest : 1 ≤ s.port
  pub highest : s.port ≤ 65524

-- the row of 01 or 02 that refuses
abbrev pub settings_number : SettingsError → ℕ
settings_number DdcCount = 1
settings_number CenterCount = 2
settings_number Rate = 3
settings_number Center = 4
settings_number CenterTooHigh = 5
settings_number PortZero = 19
settings_number Port = 6

abbrev pub settings_answer : Result ℕ SettingsError → Told
settings_answer (Ok khz) = gives (khz ∷ [])
settings_answer (Err e) = refused (settings_number e) []

-- off, on or unsaid; unsaid means off
abbrev pub chosen : AttenuationChoice → Bool
chosen Off = false
chosen On = true
chosen Unsaid = false

-- whether a session with these settings attenuates
abbrev pub attenuates : Settings → Bool
attenuates s = chosen s.attenuation
