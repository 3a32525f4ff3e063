-- What a line asks for, as the desk says it. Definitions only.
use Rattle.std.specs.Prelude.{⊤, ◌≡◌, ℕ, Bool, true, List, Result, Ok}
use Rattle.encoding.specs.declared.check.ListError.{ListError}
use Rattle.lines.specs.Call.{Fit}
use Rattle.desk.specs.declared.desk.Request.{Request}
use Rattle.desk.specs.declared.desk.Request.TheVariants.{Call}

-- a call: its numbers are within the bounds of what a line is read as, and there is a session
pub record Asks (asks : Request) (there : Bool) (call : List ℕ) : Type 0 where
  pub fit : asks ≡ Call → Fit call
  pub session : asks ≡ Call → there ≡ true

-- and it is run
pub record IsRun (asks : Request) (outcome : Result ⊤ ListError) : Type 0 where
  pub ran : asks ≡ Call → outcome ≡ Ok tt
