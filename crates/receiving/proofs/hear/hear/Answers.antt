-- `receiving::hear::hear` meets its contract: the number is judged, then the samples are written. Assumes nothing.
use mathlib.Core.Path.{◌≡◌, sym}
use lib.ListN.{length}
use Rattle.model.specs.Gives.{incoming_of}
use Rattle.receiving.proofs.Hearings.{filled, heard-stale, heard-accepted}
use borrow.Author.Rules.{rules}
use Rattle.receiving.proofs.hear.hear.Goals as goal

pub returns-in-Stale : goal.returns-in-Stale
returns-in-Stale c = let a = c.args in
    heard-stale a.rate a.r.now a.health.now a.samples.now a.count (incoming_of a.i) _ _ c.judge-event.ensures c.in-Stale.is

pub returns : goal.returns
returns c = let a = c.args in
    let n : length a.samples.now ≡ 476 = search rules in
    heard-accepted a.rate a.r.now a.health.now a.samples.now a.count (incoming_of a.i) _ _ c.judge-event.ensures _ _ _ _ _
    (search rules)
    c.report_event-missing.ensures.told c.report_event-missing.ensures.kept c.accept.ensures
    (filled a.i.datagram.now a.samples.now a.count _ _ (sym c.requires) n c.parse_iq_datagram.ensures)
