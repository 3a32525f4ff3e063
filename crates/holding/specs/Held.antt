-- The session that a program holds, and its account. Definitions only.
use Rattle.std.specs.Prelude.{⊤, ℕ, ◌≡◌, List, Float, Option, Result, Ok, IfSome}
use Rattle.examining.specs.declared.sitting.Unseated.{Unseated}
use Rattle.model.specs.Gives.{joined}
use Rattle.lines.specs.Call.{Fit}
use Rattle.lines.specs.Open.{opening_of}
use Rattle.encoding.specs.Lists.{Lent}
use Rattle.examining.specs.Marks.{Sits, ran, Marks}
use Rattle.examining.specs.Stands.{Stands, Standing}
use Rattle.examining.specs.declared.sitting.Sitting.{Sitting}
use Rattle.examining.specs.declared.sitting.Unmarked.{Unmarked}

-- opened by the settings and the reading of this line
pub record Opens (r : Result Sitting Unseated) (line : List ℕ) : Type 0 where
  pub sits : Sits r (opening_of line).settings (opening_of line).at

-- after a call: run and noted; what a line was read as is run, and where it was noted the account stands as it did
pub record Goes (r : Result ⊤ Unmarked) (s s' : Sitting) (samples : List Float) (l : Lent) (answers₀ answers packets : List ℕ) (places samples' : List Float) (t t' : List ℕ)
    : Type 0 where
  pub marks : Marks r (joined s.session samples) l s.account s'.account answers₀ answers packets places (joined s'.session samples') t t'
  pub run : Fit l.calls → ran r ≡ Ok tt
  pub stands : r ≡ Ok tt → Stands (joined s.session samples) t s.account → Stands (joined s'.session samples') t' s'.account

-- where there is a session its account stands
pub record Holds (h : Option Sitting) (samples : List Float) (table : List ℕ) : Type 0 where
  pub account : IfSome h (λ s. Stands (joined s.session samples) table s.account)

-- the same, whatever is lent beside the session
pub record Kept (h : Option Sitting) (table : List ℕ) : Type 0 where
  pub account : IfSome h (λ s. Standing s.session table s.account)
