-- 01's edges, M, hold: those of the session by computation, the others by their own crates. Assumes nothing.
use Rattle.std.proofs.Common.{refl}
use lib.Ieee.{lt, eq, of_int, mul, div, add, sub, round}
use Rattle.base.specs.Cases.{Hold, seen_by}
use Rattle.base.proofs.Cases.{hold-seen, hold-append}
use Rattle.model.specs.Edges.{number, sample, event, session_edges, numbered, received, edges}
use Rattle.tuning.specs.Edges as Tuning
use Rattle.tuning.proofs.Edges as TuningHold
use Rattle.iq.specs.Edges as Iq
use Rattle.iq.proofs.Edges as IqHold
use Rattle.sequence.specs.Edges as Tracker
use Rattle.sequence.proofs.Edges as TrackerHold
use Rattle.model.specs.Session.{step}
use Rattle.model.specs.Routing.{by_offset, routed}
use Rattle.base.specs.Pick.{pick}
use Rattle.double.specs.Whole.{nat_of, rounded, is_whole}
use Rattle.double.specs.Seconds.{seconds_of}
use Rattle.stream.specs.Elapsed.{plausible, jump_limit, restart_missing, below_half}
use Rattle.tuning.specs.Rate.{is_doubled, is_rate, khz_of}
use Rattle.tuning.specs.Centre.{whole_centre, below_nyquist}
use Rattle.iq.specs.Iq.{header_told, rows}
use Rattle.sequence.specs.Tracker as Sequence
use Rattle.model.specs.Settings.{settings_told, accepts}
use Rattle.model.specs.Rules.{begun, refilled, used, elapsed, capped, outage, missing_of, added, pending_after}
use Rattle.model.specs.State.{left, waits}
use Rattle.model.specs.Open.{new_common, new_receiver, new_session, opened}
use Rattle.model.specs.Begin.{or_at, begun_by, begin}
use Rattle.model.specs.Hearing.{event_of, restart_of, left_out, accepted_by}
use Rattle.model.specs.Arrival.{hear, heard_as, heard_iq, arrived, arrival}
use Rattle.model.specs.Take.{handed, hand_out, take_out}
use Rattle.model.specs.Drain.{take_missing, take_discontinuity}

session-edges : Hold session_edges
unfolding pick accepts settings_told is_rate is_doubled khz_of eq of_int whole_centre below_nyquist is_whole lt opened new_session new_common new_receiver step
    begin begun_by or_at begun refilled arrival arrived routed by_offset header_told rows heard_iq heard_as hear event_of capped
    Sequence.observed Sequence.meant Sequence.less Sequence.after Sequence.zero_restarts elapsed jump_limit plausible nat_of seconds_of add mul div waits left accepted_by left_out used missing_of
    take_out hand_out handed restart_missing rounded sub outage restart_of pending_after added below_half take_missing take_discontinuity round
session-edges = refl

pub edges-hold : Hold edges
edges-hold =
    hold-append (seen_by number Tuning.edges) received (hold-seen number Tuning.edges TuningHold.edges-hold)
    (hold-append (seen_by sample Iq.edges) numbered (hold-seen sample Iq.edges IqHold.edges-hold)
    (hold-append (seen_by event Tracker.edges) session_edges (hold-seen event Tracker.edges TrackerHold.edges-hold) session-edges))
