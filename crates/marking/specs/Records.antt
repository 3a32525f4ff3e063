-- What is kept of a list of calls: a record of each arrival that was told an event, and the pairs that Takes handed out. Definitions only.
use Rattle.std.specs.Prelude.{ℕ, ◌+◌, List, [], ◌∷◌, ◌++◌, length, ltb}
use Rattle.base.specs.Pick.{pick}
use Rattle.octets.specs.Number.{be_at}
use Rattle.sequence.specs.declared.SeqEvent.{SeqEvent}
use Rattle.sequence.specs.declared.SeqEvent.TheVariants as told
use Rattle.model.specs.Answer.{Answer, refused, done, heard, took, slot, flag, tells}
use Rattle.model.specs.Host.{Call, Begin, Pass, Arrival, Take, Close, TakeMissing, TakeDiscontinuity, TakeStalled, Reply}
use Rattle.tally.specs.Stretches.{noted_all}
use Rattle.tally.specs.declared.record.Event.{Event}
use Rattle.tally.specs.declared.record.Event.TheVariants.{InOrder, Gap, Stale, Restart}
use Rattle.tally.specs.declared.record.Record.{Record}
use Rattle.tally.specs.declared.stretch.Stretch.{Stretch}

-- a gap of any size is one event: the missing tells the size
abbrev pub event_of : SeqEvent → Event
event_of told.InOrder = InOrder
event_of (told.Gap n) = Gap
event_of told.Stale = Stale
event_of told.Restart = Restart

-- the number of a datagram: its first four octets; 0 where it has fewer
unfoldable pub number_in : List ℕ → ℕ
number_in octets = pick (ltb (length octets) 4) 0 (be_at 4 octets 0)

-- an arrival's record, by its answer
abbrev pub heard_as : ℕ → ℕ → Answer → List Record
heard_as reading number (heard e missing) = record { reading = reading; number = number; event = event_of e; missing = missing } ∷ []
heard_as reading number (refused k) = []
heard_as reading number (done word) = []
heard_as reading number (took n) = []
heard_as reading number (slot held) = []
heard_as reading number (flag stalled) = []

abbrev pub record_of : Call → Answer → List Record
record_of (Arrival i packets) a = heard_as i.now (number_in i.octets) a
record_of (Begin now) a = []
record_of (Pass now packets) a = []
record_of (Take now buffer) a = []
record_of (Close packets) a = []
record_of TakeMissing a = []
record_of TakeDiscontinuity a = []
record_of TakeStalled a = []

abbrev pub pairs_of : Call → Answer → ℕ
pairs_of (Take now buffer) a = (tells a).handed
pairs_of (Begin now) a = 0
pairs_of (Pass now packets) a = 0
pairs_of (Arrival i packets) a = 0
pairs_of (Close packets) a = 0
pairs_of TakeMissing a = 0
pairs_of TakeDiscontinuity a = 0
pairs_of TakeStalled a = 0

-- ---- of a list of calls and what they got back

abbrev pub records_of : List Call → List Reply → List Record
records_of [] rs = []
records_of (c ∷ cs) [] = []
records_of (c ∷ cs) (r ∷ rs) = record_of c r.answer ++ records_of cs rs

abbrev pub pairs_in : List Call → List Reply → ℕ
pairs_in [] rs = 0
pairs_in (c ∷ cs) [] = 0
pairs_in (c ∷ cs) (r ∷ rs) = pairs_of c r.answer + pairs_in cs rs

abbrev pub stretches_told : List Call → List Reply → List Stretch
stretches_told cs rs = noted_all [] (records_of cs rs)
