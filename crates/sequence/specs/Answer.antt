-- An event in 01's terms. 01 has words for the four and refuses none of them, so each has a number here, in 01's order: in order, a
-- gap, stale, restart. A gap gives with it how many datagrams were lost. Definitions only.
use Rattle.std.specs.Prelude.{[], ◌∷◌}
use Rattle.base.specs.Told.{Told, gives}
use Rattle.sequence.specs.declared.SeqEvent.{SeqEvent}
use Rattle.sequence.specs.declared.SeqEvent.TheVariants.{InOrder, Gap, Stale, Restart}

abbrev pub event_answer : SeqEvent → Told
event_answer InOrder = gives (0 ∷ [])
event_answer (Gap lost) = gives (1 ∷ lost ∷ [])
event_answer Stale = gives (2 ∷ [])
event_answer Restart = gives (3 ∷ [])
