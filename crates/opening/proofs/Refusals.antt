-- Settings are accepted exactly where their answer has no refusal's number. Assumes nothing.
use Rattle.std.specs.Prelude.{ℕ, Result, Ok, Err}
use Rattle.model.specs.declared.settings.SettingsError.{SettingsError}
use Rattle.model.specs.declared.settings.SettingsError.TheVariants.{DdcCount, CenterCount, Rate, Center, CenterTooHigh, PortZero, Port}
use mathlib.Core.Path.{◌≡◌, refl}
use lib.Dec.{eqb}
use Rattle.model.specs.Settings.{settings_answer, is_given}
use Rattle.opening.specs.Refusal.{number_of}

pub none-is-given : (a : Result ℕ SettingsError) → eqb (number_of (settings_answer a)) 0 ≡ is_given (settings_answer a)
none-is-given (Ok khz) = refl
none-is-given (Err DdcCount) = refl
none-is-given (Err CenterCount) = refl
none-is-given (Err Rate) = refl
none-is-given (Err Center) = refl
none-is-given (Err CenterTooHigh) = refl
none-is-given (Err PortZero) = refl
none-is-given (Err Port) = refl
