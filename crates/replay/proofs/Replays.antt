-- What `carry_on` and `replay` return, from what their parts were promised. Assumes nothing.
use Rattle.std.specs.Prelude.{is_ok, ⊤, Result, Ok, Err}
use Rattle.encoding.specs.declared.check.ListError.{ListError}
use Rattle.encoding.specs.declared.check.ListError.TheVariants.{NotOpened}
use Rattle.model.specs.declared.settings.SettingsError.{SettingsError}
use Prim.Native.Nat.{ℕ}
use mathlib.Core.Path.{◌≡◌, sym, ap, subst, ◌∙◌}
use mathlib.Core.Bool.{Bool, true, false}
use mathlib.Core.List.{List}
use lib.ListN.{length}
use lib.Dec.{T}
use lib.Ieee.{Float}
use native.Mathlib.Omega.{arith}
use Rattle.base.proofs.Picks.{pick-t, pick-f}
use Rattle.model.specs.Settings.{settings_answer, is_given, accepts}
use Rattle.model.specs.Open.{opened}
use Rattle.model.specs.State.{State}
use Rattle.model.specs.Session.{opened_with}
use Rattle.model.specs.declared.session.Session.{Session}
use Rattle.model.specs.declared.settings.Settings.{Settings}
use Rattle.opening.specs.Opens.{Opens}
use Rattle.model.specs.Gives.{joined}
use Rattle.encoding.specs.Lists.{Lent, outcome_of}
use Rattle.replay.specs.Runs.{untouched, carried, Carries, RunsAll}
use Rattle.replay.specs.Replay.{replayed, Replays}
use Rattle.replay.proofs.Chunks.{carries-runs, runs-account}

-- ---- carried on

module _ (outcome : Result ⊤ ListError) (st : State) (l : Lent) (answers₀ : List ℕ) (e : outcome_of l (length answers₀) ≡ outcome) where
  pub refused-list : is_ok outcome ≡ false → Carries outcome st l answers₀ answers₀ l.packets l.places st
  unfolding carried
  refused-list k =
      record { leaves = ap (λ (t : Result ⊤ ListError). untouched t st l answers₀) (sym e) ∙ sym (pick-f _ _ _ (ap is_ok e ∙ k)) }

  pub run-list : outcome ≡ Ok tt → (answers packets : List ℕ) (places : List Float) (st' : State) → RunsAll st l answers packets places st'
      → Carries (Ok tt) st l answers₀ answers packets places st'
  unfolding carried
  run-list k answers packets places st' r = record { leaves = r.leaves ∙ sym (pick-t _ _ _ (ap is_ok (e ∙ k))) }

-- ---- from a session just opened

module _ (s : Settings) (opening : ℕ) (answer : Result ℕ SettingsError) (x : Session) (b : Bool) (samples : List Float) (l : Lent) (answers₀ : List ℕ)
    (o : Opens (record { answer = answer; session = x }) s opening) (h : b ≡ is_given (settings_answer answer)) where
  accepts-is : (v : Bool) → b ≡ v → accepts s ≡ v
  unfolding accepts
  accepts-is v k = ap is_given (sym o.answers) ∙ sym h ∙ k

  pub not_opened : b ≡ false → Replays s opening answer (Err NotOpened) samples l answers₀ answers₀ l.packets l.places (joined x samples)
  unfolding replayed opened
  not_opened k =
      let f = accepts-is false k in
      record {
        opens = o.answers;
        leaves = ap (λ (t : Session). untouched (Err NotOpened) (joined t samples) l answers₀) (o.leaves ∙ pick-f _ _ _ f) ∙ sym (pick-f _ _ _ f);
        account = λ e numbers. let z : ◌≡◌ {A = ℕ} 0 1 = cc in absurd (omega arith);
      }

  pub replays : b ≡ true → length samples ≡ 476 → (outcome : Result ⊤ ListError) (answers packets : List ℕ) (places : List Float) (st : State)
      → Carries outcome (joined x samples) l answers₀ answers packets places st → Replays s opening answer outcome samples l answers₀ answers packets places st
  unfolding replayed
  replays k size outcome answers packets places st c =
      let f = accepts-is true k in
      let d : Carries outcome (opened_with samples s opening) l answers₀ answers packets places st =
      subst (λ (t : Session). Carries outcome (joined t samples) l answers₀ answers packets places st) o.leaves c in
      record {
        opens = o.answers;
        leaves = d.leaves ∙ sym (pick-t _ _ _ f);
        account = λ e. runs-account s opening samples _ _ st (subst T (sym f) tt) size (carries-runs outcome (opened_with samples s opening) l answers₀ answers packets places st d e);
      }
