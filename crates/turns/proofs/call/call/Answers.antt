-- `turns::call::call` meets its contract: a kind a return. Assumes nothing.
use Rattle.std.proofs.Common.{le_of_eq, sym}
use Rattle.turns.proofs.Dispatch.{as-begin, as-pass, as-arrival, as-take, as-close, as-missing, as-discontinuity, as-stalled, by_kind, kind_is}
use Rattle.turns.proofs.call.call.Goals as goal

pub returns-in-Begin : goal.returns-in-Begin
returns-in-Begin c =
    let a = c.args in
    let w = a.c.words in
    by_kind w a.c.octets.now a.c.numbers.now a.packets.now a.places.now _ _ _ _ _ _ _ _ _
    (as-begin w a.c.octets.now a.c.numbers.now a.packets.now a.places.now _ _ (kind_is w c.requires _ c.of.ensures.some c.of.ensures.none _ c.unwrap_or.ensures c.in-Begin.is))
    (c.begin.ensures.replies a.samples.now)

pub returns-in-Pass : goal.returns-in-Pass
returns-in-Pass c =
    let a = c.args in
    let w = a.c.words in
    by_kind w a.c.octets.now a.c.numbers.now a.packets.now a.places.now _ _ _ _ _ _ _ _ _
    (as-pass w a.c.octets.now a.c.numbers.now a.packets.now a.places.now _ _ (kind_is w c.requires _ c.of.ensures.some c.of.ensures.none _ c.unwrap_or.ensures c.in-Pass.is))
    (c.pass.ensures.replies a.samples.now)

pub returns-in-Arrival : goal.returns-in-Arrival
returns-in-Arrival c =
    let a = c.args in
    let w = a.c.words in
    by_kind w a.c.octets.now a.c.numbers.now a.packets.now a.places.now _ _ _ _ _ _ _ _ _
    (as-arrival w a.c.octets.now a.c.numbers.now a.packets.now a.places.now _ _ (kind_is w c.requires _ c.of.ensures.some c.of.ensures.none _ c.unwrap_or.ensures c.in-Arrival.is))
    c.arrival.ensures

pub returns-in-Take : goal.returns-in-Take
returns-in-Take c =
    let a = c.args in
    let w = a.c.words in
    by_kind w a.c.octets.now a.c.numbers.now a.packets.now a.places.now _ _ _ _ _ _ _ _ _
    (as-take w a.c.octets.now a.c.numbers.now a.packets.now a.places.now _ _ (kind_is w c.requires _ c.of.ensures.some c.of.ensures.none _ c.unwrap_or.ensures c.in-Take.is))
    c.take.ensures

pub returns-in-Close : goal.returns-in-Close
returns-in-Close c =
    let a = c.args in
    let w = a.c.words in
    by_kind w a.c.octets.now a.c.numbers.now a.packets.now a.places.now _ _ _ _ _ _ _ _ _
    (as-close w a.c.octets.now a.c.numbers.now a.packets.now a.places.now _ _ (kind_is w c.requires _ c.of.ensures.some c.of.ensures.none _ c.unwrap_or.ensures c.in-Close.is))
    (c.close.ensures.replies a.samples.now)

pub returns-in-TakeMissing : goal.returns-in-TakeMissing
returns-in-TakeMissing c =
    let a = c.args in
    let w = a.c.words in
    by_kind w a.c.octets.now a.c.numbers.now a.packets.now a.places.now _ _ _ _ _ _ _ _ _
    (as-missing w a.c.octets.now a.c.numbers.now a.packets.now a.places.now _ _ (kind_is w c.requires _ c.of.ensures.some c.of.ensures.none _ c.unwrap_or.ensures c.in-TakeMissing.is))
    (c.missing.ensures.replies a.samples.now)

pub returns-in-TakeDiscontinuity : goal.returns-in-TakeDiscontinuity
returns-in-TakeDiscontinuity c =
    let a = c.args in
    let w = a.c.words in
    by_kind w a.c.octets.now a.c.numbers.now a.packets.now a.places.now _ _ _ _ _ _ _ _ _
    (as-discontinuity w a.c.octets.now a.c.numbers.now a.packets.now a.places.now _ _ (kind_is w c.requires _ c.of.ensures.some c.of.ensures.none _ c.unwrap_or.ensures c.in-TakeDiscontinuity.is))
    (c.discontinuity.ensures.replies a.samples.now)

pub returns-in-TakeStalled : goal.returns-in-TakeStalled
returns-in-TakeStalled c =
    let a = c.args in
    let w = a.c.words in
    by_kind w a.c.octets.now a.c.numbers.now a.packets.now a.places.now _ _ _ _ _ _ _ _ _
    (as-stalled w a.c.octets.now a.c.numbers.now a.packets.now a.places.now _ _ (le_of_eq (sym (kind_is w c.requires _ c.of.ensures.some c.of.ensures.none _ c.unwrap_or.ensures c.in-TakeStalled.is))))
    (c.stalled.ensures.replies a.samples.now)
