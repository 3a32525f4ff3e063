-- 01's edges, M, as one list: those of the session's calls and of the settings, with tuning's, iq's and sequence's. Definitions only.
use Rattle.std.specs.Prelude.{ℕ, Bool, List, [], ◌∷◌, ◌++◌, Float, Option, Some, None}
use Rattle.model.specs.declared.receiver.Parked.{Parked}
use Rattle.base.specs.Told.{Told, gives, refused}
use Rattle.sequence.specs.declared.SeqEvent.{SeqEvent}
use Rattle.sequence.specs.declared.SeqEvent.TheVariants.{Gap, Restart}
use Rattle.model.specs.Answer.{Answer, heard, slot}
use Rattle.model.specs.Host.{Call, Begin, Arrival, TakeMissing, TakeDiscontinuity, final}
use Rattle.base.specs.Cases.{Case, case, seen_by}
use Rattle.tuning.specs.Edges as Tuning
use Rattle.iq.specs.Edges as Iq
use Rattle.sequence.specs.Edges as Tracker
use Rattle.model.specs.Lists.{usual_at, usual, iq_at, room, silence, read_at}
use Rattle.model.specs.Session.{step, session}
use Rattle.model.specs.Routing.{Routed}
use Rattle.model.specs.Settings.{settings_told}

-- an open park window
abbrev pub parked : ℕ → ℕ → ℕ → Option Parked
parked from accounted left = Some (record { from = from; accounted = accounted; left = left })

-- what a definition gives
pub data Given : Type 0 where
  number : ℕ → Given
  sample : Float → Given
  event : SeqEvent → Given
  answer : Answer → Given
  told : Told → Given
  window : Option Parked → Given
  held : Option ℕ → Given
  route : Routed → Given
  bit : Bool → Given
  listed : List ℕ → Given

-- the answer to a call after a list of calls of a session opened at 0, which begins with a read of number 5 at 0: 6 is expected
abbrev pub after : List Call → Call → Given
after calls c = answer (step (final (session silence) ((session silence).opened usual 0) (read_at 0 5 ++ calls)) c).reply.answer

-- to the arrival of n at a reading, and to a drain after it
abbrev pub arrives : ℕ → ℕ → Answer → Case Given
arrives now n is = case (after (Begin 0 ∷ []) (Arrival (iq_at now n) room)) (answer is)

abbrev pub drains : ℕ → ℕ → Call → Option ℕ → Case Given
drains now n drain is = case (after (Begin 0 ∷ Arrival (iq_at now n) room ∷ []) drain) (answer (slot is))

abbrev pub session_edges : List (Case Given)
session_edges =
    -- at 48 kHz 100 lost datagrams are 23,800 samples, below half the rate
    arrives 0 106 (heard (Gap 100) 23800)
    ∷ drains 0 106 TakeMissing (Some 23800)
    ∷ drains 0 106 TakeDiscontinuity None
    -- 101 are 24,038 and so a discontinuity
    ∷ arrives 0 107 (heard (Gap 101) 24038)
    ∷ drains 0 107 TakeMissing None
    ∷ drains 0 107 TakeDiscontinuity (Some 24038)
    -- E = 0: 8192 may be lost; one more is a restart, and misses nothing
    ∷ arrives 0 8198 (heard (Gap 8192) 1949696)
    ∷ arrives 0 8199 (heard Restart 0)
    ∷ drains 0 8199 TakeDiscontinuity (Some 0)
    -- 48 kHz, E = 1 s: a restart misses 47,762
    ∷ arrives 1000000000 0 (heard Restart 47762)
    -- 65,524 is the highest port that is accepted
    ∷ case (told (settings_told (usual_at 65524))) (told (gives (48 ∷ [])))
    ∷ case (told (settings_told (usual_at 65525))) (told (refused 6 []))
    ∷ []

-- ---- all of them

abbrev pub numbered : List (Case Given)
numbered = seen_by event Tracker.edges ++ session_edges

abbrev pub received : List (Case Given)
received = seen_by sample Iq.edges ++ numbered

abbrev pub edges : List (Case Given)
edges = seen_by number Tuning.edges ++ received
