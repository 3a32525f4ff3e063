-- `examining::sitting::sit` meets its contract. Assumes nothing.
use Rattle.examining.proofs.Marked.{sits, refuses}
use Rattle.examining.proofs.sitting.sit.Goals as goal

pub returns-in-Ok : goal.returns-in-Ok
returns-in-Ok c = sits c.args.settings c.args.opening _ _ c.open-opened.ensures _ c.in-Ok.is _ c.none.ensures

pub returns-in-Err : goal.returns-in-Err
returns-in-Err c = refuses c.args.settings c.args.opening _ _ c.open-opened.ensures _ c.in-Err.is _ c.none.ensures
