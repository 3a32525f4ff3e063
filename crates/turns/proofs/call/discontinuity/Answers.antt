-- `turns::call::discontinuity` meets its contract. Assumes nothing.
use Rattle.turns.proofs.Arms.{plain, drains-discontinuity}
use Rattle.turns.proofs.call.discontinuity.Goals as goal

pub returns : goal.returns
returns c = plain _ _ _ _ _ _ _ c.take_discontinuity.ensures (drains-discontinuity c.args.s.now) c.plain.ensures c.of_slot.ensures
