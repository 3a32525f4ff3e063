-- Open, from the parts that the code makes a session of. Assumes nothing.
use Rattle.std.specs.Prelude.{Result, Ok, Err}
use Rattle.model.specs.declared.settings.SettingsError.{SettingsError}
use Rattle.model.specs.declared.settings.SettingsError.TheVariants.{DdcCount, CenterCount, Rate, Center, CenterTooHigh, PortZero, Port}
use Prim.Native.Nat.{ℕ}
use mathlib.Core.Path.{◌≡◌, refl, sym, ap, ◌∙◌}
use mathlib.Core.Bool.{Bool, true, false}
use Rattle.base.proofs.Picks.{pick-t, pick-f}
use Rattle.tuning.specs.Rate.{khz_of}
use Rattle.model.specs.Settings.{settings_answer, settings_told, is_given, accepts}
use Rattle.model.specs.Open.{new_session, unopened, opened}
use Rattle.model.specs.declared.answer.Opened.{Opened}
use Rattle.model.specs.declared.settings.Settings.{Settings}
use Rattle.model.specs.declared.session.Session.{Session}
use Rattle.opening.specs.Opens.{Opens}
use Rattle.model.proofs.Rows.{khz-is}

-- ---- Open

module _ (s : Settings) (now : ℕ) (a : Result ℕ SettingsError) (x : Session) where
  abbrev result : Opened
  result = record { answer = a; session = x }

  accepts-is : (b : Bool) → settings_answer a ≡ settings_told s → is_given (settings_answer a) ≡ b → accepts s ≡ b
  unfolding accepts
  accepts-is b t e = ap is_given (sym t) ∙ e

  pub opened-not : ((k : ℕ) → a ≡ Ok k → ⊥) → settings_answer a ≡ settings_told s → x ≡ unopened → Opens result s now
  unfolding opened
  opened-not n t e = record { answers = t; leaves = e ∙ sym (pick-f _ _ _ (accepts-is false t (go a n))) }
    where
      go : (a : Result ℕ SettingsError) → ((k : ℕ) → a ≡ Ok k → ⊥) → is_given (settings_answer a) ≡ false
      go (Ok k) n = absurd (n k refl)
      go (Err DdcCount) n = refl
      go (Err CenterCount) n = refl
      go (Err Rate) n = refl
      go (Err Center) n = refl
      go (Err CenterTooHigh) n = refl
      go (Err PortZero) n = refl
      go (Err Port) n = refl

  pub opened-so : (k : ℕ) → a ≡ Ok k → settings_answer a ≡ settings_told s → x ≡ new_session k s now
      → Opens (record { answer = Ok k; session = x }) s now
  unfolding opened
  opened-so k g t e =
      let h : k ≡ khz_of s.sample_rate_hz = khz-is s k (sym (ap settings_answer g) ∙ t) in
      record { answers = sym (ap settings_answer g) ∙ t; leaves = e ∙ ap (λ (n : ℕ). new_session n s now) h ∙ sym (pick-t _ _ _ (accepts-is true t (ap (λ (y : Result ℕ SettingsError). is_given (settings_answer y)) g))) }
