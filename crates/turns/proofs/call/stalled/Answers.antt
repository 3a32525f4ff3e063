-- `turns::call::stalled` meets its contract. Assumes nothing.
use Rattle.turns.proofs.Arms.{plain, drains-stalled}
use Rattle.turns.proofs.call.stalled.Goals as goal

pub returns : goal.returns
returns c = plain _ _ _ _ _ _ _ c.take_stalled.ensures (drains-stalled c.args.s.now) c.plain.ensures c.of_flag.ensures
