-- The rules of times, numbers and slots: 01, Numbers in the stream and The session. They name no session, and the book of demand 3
-- uses the same. Definitions only. A difference of readings is of natural numbers, and so never below 0.
use Rattle.std.specs.Prelude.{ℕ, ◌+◌, ◌-◌, ◌*◌, min, max, Bool, true, false, List, [], ◌∷◌, nat_le, Float, Option, Some, None}
use Rattle.model.specs.declared.receiver.Parked.{Parked}
use Rattle.stream.specs.Size.{per_datagram}
use Rattle.base.specs.Pick.{pick}
use Rattle.double.specs.Whole.{most}
use Rattle.stream.specs.Elapsed.{jump_limit, account_time, covered_time, below_half}
use Rattle.sequence.specs.Tracker.{observed}
use Rattle.sequence.specs.declared.SeqTracker.{SeqTracker}
use Rattle.sequence.specs.declared.SeqEvent.{SeqEvent}
use Rattle.sequence.specs.declared.SeqEvent.TheVariants.{InOrder, Gap, Stale, Restart}
use Rattle.model.specs.declared.receiver.Pending.{Pending}
use Rattle.model.specs.Parts.{with_missing, with_discontinuity}

-- ---- the park window

-- after a pause: a window of `size` arrivals opens, anchored at the last Take; an open one is full again, all else of it stays
unfoldable pub refilled : ℕ → ℕ → Option Parked → Option Parked
refilled size taken None = Some (record { from = taken; accounted = 0; left = size })
refilled size taken (Some w) = Some (record { from = w.from; accounted = w.accounted; left = size })

-- a Begin comes after a pause if the last Take is at least 100 ms ago
unfoldable pub begun : ℕ → ℕ → Option Parked → ℕ → Option Parked
begun size taken w now = pick (nat_le 100000000 (now - taken)) (refilled size taken w) w

-- an accepted arrival's 238 samples and its missing go into the account; it is one of the window's arrivals: the last closes it
unfoldable pub used : Option Parked → ℕ → Option Parked
used None missing = None
used (Some w) missing =
    pick (nat_le w.left 1) None (Some (record { from = w.from; accounted = min (w.accounted + (per_datagram + missing)) most; left = w.left - 1 }))

-- ---- elapsed time and the jump limit

-- E: how long ago an arrival was last accepted; in a park window, if larger, the time since its anchor less that of its account
unfoldable pub elapsed : Float → ℕ → Option Parked → ℕ → ℕ
elapsed rate accepted None now = now - accepted
elapsed rate accepted (Some w) now = max (now - accepted) (now - w.from - account_time w.accounted rate)

-- a gap over the jump limit is a restart
unfoldable pub capped : ℕ → SeqEvent → SeqEvent
capped limit InOrder = InOrder
capped limit (Gap k) = pick (nat_le k limit) (Gap k) Restart
capped limit Stale = Stale
capped limit Restart = Restart

-- ---- a restart

-- the datagrams that a waiting number of this event stands for
unfoldable pub datagrams : SeqEvent → ℕ
datagrams InOrder = 1
datagrams (Gap k) = k + 1
datagrams Stale = 0
datagrams Restart = 1

-- the waiting total (backlog_datagrams): a copy of the tracker hears the numbers; here too a gap over the limit is a restart
unfoldable pub backlog : ℕ → SeqTracker → List ℕ → ℕ
backlog limit t [] = 0
backlog limit t (seq ∷ waiting) =
    datagrams (capped limit (observed t seq).event) + backlog limit (observed t seq).tracker waiting

-- the bound less the time that what waits covers; the walk's limit is the bound's, before that comes off. Outside 01's domain the
-- waiting total saturates
unfoldable pub uncovered : Float → ℕ → SeqTracker → List ℕ → ℕ
uncovered rate bound t waiting = bound - covered_time (min (backlog (jump_limit bound rate) t waiting) most) rate

-- the time that a restart misses: E; in a window, E as it is at the later reading with this arrival as the last accepted one, and
-- without the time that what waits covers, by the tracker as this arrival left it
unfoldable pub outage : Float → ℕ → Option Parked → ℕ → ℕ → SeqTracker → List ℕ → ℕ
outage rate accepted None now later t waiting = elapsed rate accepted None now
outage rate accepted (Some w) now later t waiting =
    uncovered rate (elapsed rate now (Some w) later) t waiting

-- ---- an arrival's missing, and where it is told

-- 238 k of a gap k; of a restart what its time gives
unfoldable pub missing_of : SeqEvent → ℕ → ℕ
missing_of InOrder restart = 0
missing_of (Gap k) restart = per_datagram * k
missing_of Stale restart = 0
missing_of Restart restart = restart

-- a slot with n more: outside 01's domain it saturates
unfoldable pub added : Option ℕ → ℕ → Option ℕ
added None n = Some n
added (Some m) n = Some (min (m + n) most)

-- a gap's missing goes to pending_missing if it is below half the rate; if not, and for a restart, to pending_discontinuity
unfoldable pub pending_after : Float → SeqEvent → ℕ → Pending → Pending
pending_after rate InOrder missing p = p
pending_after rate (Gap k) missing p =
    pick (below_half missing rate) (with_missing p (added p.missing missing)) (with_discontinuity p (added p.discontinuity missing))
pending_after rate Stale missing p = p
pending_after rate Restart missing p = with_discontinuity p (added p.discontinuity missing)

abbrev pub is_stale : SeqEvent → Bool
is_stale InOrder = false
is_stale (Gap k) = false
is_stale Stale = true
is_stale Restart = false
