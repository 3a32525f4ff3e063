-- 01's edges of the tracker, M: expecting 100, 64 behind and 65; expecting 5, number 0. Definitions only.
use Rattle.std.specs.Prelude.{ℕ, List, [], ◌∷◌, Some}
use Rattle.base.specs.Cases.{Case, case}
use Rattle.sequence.specs.Tracker.{observed}
use Rattle.sequence.specs.declared.SeqEvent.{SeqEvent}
use Rattle.sequence.specs.declared.SeqEvent.TheVariants.{Stale, Restart}

-- the event where a number is expected and no stale one has come
abbrev seen : ℕ → ℕ → SeqEvent
seen expected seq = (observed (record { expected = Some expected; stale_run = 0 }) seq).event

abbrev pub edges : List (Case SeqEvent)
edges = case (seen 100 36) Stale ∷ case (seen 100 35) Restart ∷ case (seen 5 0) Restart ∷ []
