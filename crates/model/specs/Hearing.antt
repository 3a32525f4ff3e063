-- A receiver hears a valid I/Q datagram: its event, its missing, and the receiver after it. Definitions only.
use Rattle.std.specs.Prelude.{ℕ, List, Float, None}
use Rattle.stream.specs.Elapsed.{jump_limit, restart_missing}
use Rattle.sequence.specs.Tracker.{observed}
use Rattle.sequence.specs.declared.SeqEvent.{SeqEvent}
use Rattle.sequence.specs.declared.SeqEvent.TheVariants.{InOrder, Gap, Stale, Restart}
use Rattle.health.specs.Counters.{count_dropped, count_gap}
use Rattle.health.specs.declared.InputHealthCounters.{InputHealthCounters}
use Rattle.model.specs.Rules.{used, elapsed, capped, outage, pending_after}
use Rattle.model.specs.Parts.{with_queue_pos, with_parked, with_pending, with_last_accepted_iq, with_tracker, with_reading, with_last_valid_iq, with_wait_entered}
use Rattle.model.specs.declared.receiver.Pending.{Pending}
use Rattle.model.specs.declared.receiver.Receiver.{Receiver}

-- the event that is told: a gap over the jump limit is a restart
unfoldable pub event_of : Float → Receiver → ℕ → ℕ → SeqEvent
event_of rate r now count =
    capped (jump_limit (elapsed rate r.last_accepted_iq r.parked now) rate) (observed r.tracker count).event

-- a valid I/Q datagram, also a stale one, empties the wait anchor; the read's copy of it stays
abbrev pub valid : Receiver → ℕ → Receiver
valid r now = with_reading (with_last_valid_iq r now) (with_wait_entered r.reading None)

-- Stale: no sample, no account, and the expected number stays
unfoldable pub left_out : Receiver → ℕ → ℕ → Receiver
left_out r now count = with_tracker (valid r now) (observed r.tracker count).tracker

-- what it misses if it is a restart, of a receiver whose tracker has heard it
unfoldable pub restart_of : Float → Receiver → ℕ → ℕ → List ℕ → ℕ
restart_of rate r now later waiting =
    restart_missing (outage rate r.last_accepted_iq r.parked now later r.tracker waiting) rate

-- a receiver that heard it: its 238 samples wait, its missing is added to the account, and this is pending then
abbrev pub queued : Receiver → ℕ → ℕ → Pending → Receiver
queued r now missing pending =
    with_last_accepted_iq (with_pending (with_parked (with_queue_pos r 0) (used r.parked missing)) pending) now

-- any other event: its samples wait, and its missing is told, added to the account and put into a slot
unfoldable pub accepted_by : Float → Receiver → ℕ → ℕ → SeqEvent → ℕ → Receiver
accepted_by rate r now count event missing = queued (left_out r now count) now missing (pending_after rate event missing r.pending)

-- a gap of k counts k dropped datagrams and one gap, a restart just one gap
unfoldable pub counted : SeqEvent → InputHealthCounters → InputHealthCounters
counted InOrder c = c
counted (Gap k) c = count_gap (count_dropped c k)
counted Stale c = c
counted Restart c = count_gap c
