-- `receiving::read::quiet_since` meets its contract. Assumes nothing.
use Rattle.std.specs.Prelude.{max}
use Rattle.std.proofs.Common.{ap, ◌∙◌}
use Rattle.model.specs.State.{quiet_since_of}
use Rattle.receiving.proofs.read.quiet_since.Goals as goal

pub returns : goal.returns
unfolding quiet_since_of
returns c = c.max.ensures ∙ ap (max c.args.r.last_valid_iq) c.unwrap_or.ensures
