-- A step in 01's terms: no step gives nothing; a step gives the level before and after it, and 0 where overload raised it, 1 where quiet
-- lowered it. Definitions only.
use Rattle.std.specs.Prelude.{ℕ, [], ◌∷◌, Option, Some, None}
use Rattle.base.specs.Told.{Told, gives}
use Rattle.attenuator.specs.declared.AttenuationCause.{AttenuationCause}
use Rattle.attenuator.specs.declared.AttenuationCause.TheVariants.{Overload, Quiet}
use Rattle.attenuator.specs.declared.AttenuationStep.{AttenuationStep}

abbrev pub cause_answer : AttenuationCause → ℕ
cause_answer Overload = 0
cause_answer Quiet = 1

abbrev pub step_answer : Option AttenuationStep → Told
step_answer None = gives []
step_answer (Some s) = gives (s.from_db ∷ s.to_db ∷ cause_answer s.cause ∷ [])
