-- `examining::sitting::mark` meets its contract. Assumes nothing.
use Rattle.std.proofs.Common.{rules}
use Rattle.model.specs.Gives.{joined}
use Rattle.encoding.specs.Lists.{lent_by}
use Rattle.examining.proofs.Marked.{not-run, was_run}
use Rattle.examining.proofs.sitting.mark.Goals as goal

pub returns-in-Err : goal.returns-in-Err
returns-in-Err c =
    let a = c.args in
    let l = lent_by a.asked.now.call a.asked.now.octets a.asked.now.numbers a.given.now.packets a.given.now.places in
    not-run (joined a.s.now.session a.samples.now) l a.s.now.account a.given.now.answers _ _ _ _ a.table.now (search rules)
    (record { octets = search rules; numbers = search rules; packets = search rules; places = search rules; answer = search rules })
    _ _ c.in-Err.is c.carry_on-outcome.ensures

pub returns-in-Ok : goal.returns-in-Ok
returns-in-Ok c =
    let a = c.args in
    let l = lent_by a.asked.now.call a.asked.now.octets a.asked.now.numbers a.given.now.packets a.given.now.places in
    was_run (joined a.s.now.session a.samples.now) l a.s.now.account a.given.now.answers _ _ _ _ a.table.now (search rules)
    (record { octets = search rules; numbers = search rules; packets = search rules; places = search rules; answer = search rules })
    _ c.in-Ok.is _ _ _ c.carry_on-outcome.ensures c.noted.ensures
