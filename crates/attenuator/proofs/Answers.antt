-- A step in 01's terms leaves no doubt which step it was. Assumes nothing.
use Rattle.std.specs.Prelude.{Option, Some, None}
use Prim.Native.Nat.{ℕ}
use mathlib.Core.Path.{◌≡◌, refl, ap}
use mathlib.Core.List.{[], ◌∷◌}
use lib.Dec.{eqb}
use lib.ListN.{get_or}
use Rattle.base.specs.Pick.{pick}
use Rattle.base.specs.Told.{Told, gives, refused}
use Rattle.base.proofs.Told.{apart}
use Rattle.attenuator.specs.Answer.{cause_answer, step_answer}
use Rattle.attenuator.specs.declared.AttenuationCause.{AttenuationCause}
use Rattle.attenuator.specs.declared.AttenuationCause.TheVariants.{Overload, Quiet}
use Rattle.attenuator.specs.declared.AttenuationStep.{AttenuationStep}

cause-back : ℕ → AttenuationCause
cause-back k = pick (eqb k 0) Overload Quiet

cause_same : (k : AttenuationCause) → cause-back (cause_answer k) ≡ k
unfolding cause-back pick
cause_same Overload = refl
cause_same Quiet = refl

step_back : Told → Option AttenuationStep
step_back (gives []) = None
step_back (gives (from ∷ vs)) = Some (record { from_db = from; to_db = get_or vs 0 0; cause = cause-back (get_or vs 1 0) })
step_back (refused k vs) = None

step_same : (s : Option AttenuationStep) → step_back (step_answer s) ≡ s
unfolding step_back
step_same None = refl
step_same (Some s) = ap (λ k. Some (record { from_db = s.from_db; to_db = s.to_db; cause = k })) (cause_same s.cause)

pub step-apart : (s t : Option AttenuationStep) → step_answer s ≡ step_answer t → s ≡ t
step-apart = apart step_answer step_back step_same
