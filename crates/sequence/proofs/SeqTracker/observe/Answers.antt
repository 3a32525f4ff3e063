-- `sequence::SeqTracker::observe` meets its contract: the event, and the tracker after it. Assumes nothing.
use Rattle.std.proofs.Common.{ap, arith}
use Rattle.sequence.specs.declared.SeqEvent.TheVariants.{InOrder}
use Rattle.sequence.specs.declared.SeqTracker.{SeqTracker}
use Rattle.sequence.proofs.Meanings.{seen_first, seen-accepted, seen-stale, run_small}
use Rattle.sequence.proofs.SeqTracker.observe.Goals as goal

pub returns-in_default : goal.returns-in_default
returns-in_default c =
    let a = c.args in
    seen_first a.self.now a.seq _ c.in_default.is (ap (λ (t : SeqTracker). record { event = InOrder; tracker = t }) c.rebaseline.ensures)

pub returns-in_default-event : goal.returns-in_default-event
returns-in_default-event c =
    let a = c.args in
    let event = c.judge-event.result in
    seen-accepted a.self.now a.seq c.in-Some.next event c.in-Some.is c.judge-event.ensures _ c.in_default-event.not-Stale
    (ap (λ (t : SeqTracker). record { event = event; tracker = t }) c.rebaseline-in_default-event.ensures)

pub overflow_add-self : goal.overflow_add-self
overflow_add-self c =
    let a = c.args in
    omega (arith, run_small a.self.now a.seq c.in-Some.next c.judge-event.result c.in-Some.is c.judge-event.ensures c.in-Stale.is)

pub returns : goal.returns
returns c =
    let a = c.args in
    seen-stale a.self.now a.seq c.in-Some.next c.judge-event.result c.in-Some.is c.judge-event.ensures c.in-Stale.is
