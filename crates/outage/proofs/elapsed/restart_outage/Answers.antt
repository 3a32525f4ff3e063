-- `outage::elapsed::restart_outage` meets its contract. Assumes nothing.
use Rattle.outage.proofs.Walks.{outage-outside, outage-parked}
use Rattle.outage.proofs.elapsed.restart_outage.Goals as goal

pub returns-then-is_none : goal.returns-then-is_none
returns-then-is_none c = let r = c.args.r.now in
    let i = c.args.i in
    outage-outside c.args.rate r.last_accepted_iq r.parked i.reading i.later r.tracker i.waiting.now _ c.if-is_none.ensures c.saturating_sub.ensures

pub returns : goal.returns
returns c = let r = c.args.r.now in
    let i = c.args.i in
    outage-parked c.args.rate r.last_accepted_iq r.parked i.reading i.later r.tracker i.waiting.now _ _ _ _ c.if-is_none.ensures
    c.unaccounted-bound.ensures c.backlog_datagrams-waits.ensures c.covered_time.ensures c.saturating_sub-2.ensures
