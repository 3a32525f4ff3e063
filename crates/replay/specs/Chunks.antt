-- A list of calls that is run in parts, each carried on from the state that the one before left. Definitions only.
use Rattle.std.specs.Prelude.{◌≡◌, List}
use Rattle.model.specs.Host.{Call, Reply, trace, final}
use Rattle.model.specs.State.{State}
use Rattle.replay.specs.Runs.{host}

-- from st these calls get these replies, and leave st'
pub record Runs (st : State) (calls : List Call) (replies : List Reply) (st' : State) : Type 0 where
  pub outcome : replies ≡ trace host st calls
  pub left : st' ≡ final host st calls
