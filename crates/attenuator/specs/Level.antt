-- The level over a list of calls: what is claimed of it. Definitions only.
use Rattle.std.specs.Prelude.{ℕ, ◌+◌, ◌≤◌, ◌<◌, Bool, ◌≡◌, List, [], ◌∷◌, Option, Some, None}
use Rattle.attenuator.specs.Controller.{observed, ticked}
use Rattle.attenuator.specs.declared.AttenuationCause.{AttenuationCause}
use Rattle.attenuator.specs.declared.AttenuationCause.TheVariants.{Overload, Quiet}
use Rattle.attenuator.specs.declared.AttenuationStep.{AttenuationStep}
use Rattle.attenuator.specs.declared.Controller.{Controller}
use Rattle.attenuator.specs.Controller.{Stepped}

pub data Call : Type 0 where
  observe : Bool → ℕ → Call
  tick : ℕ → Call

abbrev pub called : Controller → Call → Stepped
called c (observe overloaded now) = observed c overloaded now
called c (tick now) = ticked c now

-- which way a step goes
abbrev pub Goes : AttenuationCause → ℕ → ℕ → Type 0
Goes Overload before after = before < after
Goes Quiet before after = after < before

-- a step tells the level before and after it, and which way it went
abbrev pub Tells : ℕ → Option AttenuationStep → ℕ → Type 0
Tells before None after = after ≡ before
Tells before (Some s) after = (s.from_db ≡ before) × (s.to_db ≡ after) × Goes s.cause before after

-- from before to after in one call: at most 6 either way, and told
pub record Moves (before : ℕ) (step : Option AttenuationStep) (after : ℕ) : Type 0 where
  pub rises : after ≤ before + 6
  pub falls : before ≤ after + 6
  pub told : Tells before step after

-- within 0 to 30 before and after every call of the list, each of which moves the level so
abbrev pub Steady : Controller → List Call → Type 0
Steady c [] = c.db ≤ 30
Steady c (x ∷ xs) =
    let s = called c x in
    (c.db ≤ 30) × Moves c.db s.step s.controller.db × Steady s.controller xs
