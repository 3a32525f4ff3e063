-- `turns::call::arrival` meets its contract. Assumes nothing.
use Rattle.turns.proofs.Arms.{arrived}
use Rattle.turns.proofs.call.arrival.Goals as goal

pub returns : goal.returns
returns c = let a = c.args in
    let w = a.c.words in
    arrived a.s.now a.samples.now w.reading w.later _ _ a.c.octets.now a.c.numbers.now a.packets.now _ _ _ _ _ _ _ c.sender-from.ensures c.arrival-a.ensures
    c.of_arrival.ensures c.streams_of_arrival.ensures
