-- `turns::call::missing` meets its contract. Assumes nothing.
use Rattle.turns.proofs.Arms.{plain, drains-missing}
use Rattle.turns.proofs.call.missing.Goals as goal

pub returns : goal.returns
returns c = plain _ _ _ _ _ _ _ c.take_missing_samples.ensures (drains-missing c.args.s.now) c.plain.ensures c.of_slot.ensures
