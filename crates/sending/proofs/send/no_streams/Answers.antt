-- `sending::send::no_streams` meets its contract. Assumes nothing.
use Rattle.std.proofs.Common.{refl}
use Rattle.model.specs.Command.{streams_as}
use Rattle.sending.proofs.send.no_streams.Goals as goal

pub returns : goal.returns
unfolding streams_as
returns c = refl
