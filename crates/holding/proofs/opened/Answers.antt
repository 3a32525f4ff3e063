-- `holding::opened` meets its contract. Assumes nothing.
use Rattle.std.proofs.Common.{rules}
use Rattle.holding.proofs.Keeps.{sits-stands}
use Rattle.holding.proofs.opened.Goals as goal

pub returns-clause-stands : goal.returns-clause-stands
returns-clause-stands c = sits-stands c.sit.result _ _ _ _ c.sit.ensures (search rules) (search rules)
