-- What an event misses, with the slots and the counts after it: account's rules side by side. Definitions only.
use Rattle.std.specs.Prelude.{ℕ, Float}
use Rattle.sequence.specs.declared.SeqEvent.{SeqEvent}
use Rattle.health.specs.declared.InputHealthCounters.{InputHealthCounters}
use Rattle.model.specs.Host.{Incoming}
use Rattle.model.specs.Rules.{outage, missing_of, pending_after}
use Rattle.model.specs.Hearing.{restart_of, counted}
use Rattle.model.specs.declared.receiver.Pending.{Pending}
use Rattle.model.specs.declared.receiver.Receiver.{Receiver}

-- the time that a restart misses, of a receiver whose tracker has heard it
abbrev pub outage_of : Float → Receiver → Incoming → ℕ
outage_of rate r i = outage rate r.last_accepted_iq r.parked i.now i.later r.tracker i.waiting

-- what an event misses
abbrev pub missing_by : Float → SeqEvent → Receiver → Incoming → ℕ
missing_by rate event r i = missing_of event (restart_of rate r i.now i.later i.waiting)

-- what is told of it
pub record Report : Type 0 where
  pub missing : ℕ
  pub pending : Pending
  pub health : InputHealthCounters

unfoldable pub report_of : Float → SeqEvent → ℕ → Pending → InputHealthCounters → Report
report_of rate event missing p h = record { missing = missing; pending = pending_after rate event missing p; health = counted event h }
