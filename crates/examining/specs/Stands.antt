-- The account of a session is that of the calls which the session ran since it was opened. Definitions only.
use Rattle.std.specs.Prelude.{ℕ, ◌*◌, ◌%◌, ◌^◌, ◌≡◌, List, length, T, Float}
use Rattle.model.specs.Settings.{accepts}
use Rattle.model.specs.Host.{Call, Reply}
use Rattle.model.specs.State.{State}
use Rattle.model.specs.Session.{opened_with}
use Rattle.model.specs.Gives.{joined}
use Rattle.replay.specs.Chunks.{Runs}
use Rattle.tally.specs.Table.{most_stretches, stretches_of}
use Rattle.marking.specs.Records.{pairs_in, stretches_told}
use Rattle.model.specs.declared.session.Session.{Session}
use Rattle.model.specs.declared.settings.Settings.{Settings}
use Rattle.tally.specs.declared.account.Account.{Account}

-- there is a list of calls that was run from a session just opened with accepted settings, and the account is that list's
pub record Stands (st : State) (t : List ℕ) (a : Account) : Type 0 where
  pub settings : Settings
  pub opening : ℕ
  -- what was lent beside the session at first
  pub lent : List Float
  pub calls : List Call
  pub replies : List Reply
  pub accepted : T (accepts settings)
  pub size : length lent ≡ 476
  pub places : length t ≡ 7 * most_stretches
  pub runs : Runs (opened_with lent settings opening) calls replies st
  pub stretches : stretches_of t a ≡ stretches_told calls replies
  pub handed : a.handed ≡ pairs_in calls replies % 2 ^ 64

-- of a session, whatever is lent beside it now
abbrev pub Standing : Session → List ℕ → Account → Type 0
Standing s t a = (samples : List Float) × Stands (joined s samples) t a
