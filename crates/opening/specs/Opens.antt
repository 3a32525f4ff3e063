-- What Open gives, held to its definition in model. Definitions only.
use Rattle.std.specs.Prelude.{ℕ, ◌≡◌}
use Rattle.model.specs.Settings.{settings_answer, settings_told}
use Rattle.model.specs.Open.{opened}
use Rattle.model.specs.declared.settings.Settings.{Settings}
use Rattle.model.specs.declared.answer.Opened.{Opened}

-- Open: the settings' answer, and the session
pub record Opens (r : Opened) (s : Settings) (now : ℕ) : Type 0 where
  pub answers : settings_answer r.answer ≡ settings_told s
  pub leaves : r.session ≡ opened s now
