-- Counters and slots, over every list of calls from a session just opened. Assumes nothing.
use Rattle.std.specs.Prelude.{None}
use Rattle.std.proofs.Common.{◌≡◌, ℕ, ◌+◌, ◌%◌, ◌^◌, ◌<◌, T, List, ap, subst, arith}
use lib.Ieee.{Float}
use Rattle.base.specs.Pick.{pick}
use Rattle.health.specs.Counters.{none_counted}
use Rattle.health.specs.declared.InputHealthCounters.{InputHealthCounters}
use Rattle.model.specs.Host.{Call, Reply, trace, final}
use Rattle.model.specs.State.{State}
use Rattle.model.specs.Session.{step, opened_with, session}
use Rattle.std.specs.Option.{unwrap_or}
use Rattle.model.specs.Counted.{dropped_by, gap_by, malformed_by, to_missing, to_discontinuity, total, held_by, drains_missing, drains_discontinuity, drained, Counts}
use Rattle.model.specs.declared.receiver.Pending.{Pending}
use Rattle.model.specs.declared.session.Session.{Session}
use Rattle.model.specs.declared.settings.Settings.{Settings}
use Rattle.model.specs.Settings.{accepts}
use Rattle.model.specs.Open.{new_common, new_receiver, new_session}
use Rattle.model.proofs.Opens.{opened-new}
use Rattle.model.proofs.Counters.{health_of, step-adds, sums}
use Rattle.model.proofs.Slots.{Flow, pending_of, rate_of, step-moves, flows}
use Rattle.health.proofs.Losses.{loss-of}

-- ---- from Open

module _ (samples : List Float) (s : Settings) (now : ℕ) (calls : List Call) (ok : T (accepts s)) where
  abbrev first : State
  first = opened_with samples s now

  new-health : health_of first ≡ none_counted
  unfolding new_session new_common
  new-health = ap (λ (x : Session). x.common.health) (opened-new s now ok)

  new-pending : pending_of first ≡ record { missing = None; discontinuity = None }
  unfolding new_session new_receiver
  new-pending = ap (λ (x : Session). x.receiver.pending) (opened-new s now ok)

  new-rate : rate_of first ≡ s.sample_rate_hz
  unfolding new_session new_common
  new-rate = ap (λ (x : Session). x.common.settings.sample_rate_hz) (opened-new s now ok)

  abbrev replies : List Reply
  replies = trace (session samples) first calls

  abbrev last : State
  last = final (session samples) first calls

  sum_of : (k n : ℕ) → k ≡ (0 + n) % 2 ^ 64 → k ≡ n % 2 ^ 64
  sum_of k n e = omega arith

  -- a slot that was empty at first
  slot_of : (before after told out : ℕ) → before ≡ 0 → told < 2 ^ 64 → Flow before after told out → out + after ≡ told
  slot_of before after told out e h f = let z = f (omega arith) in omega arith

  abbrev rate : Float
  rate = s.sample_rate_hz

  dropped-all : (health_of last).dropped_packets ≡ total dropped_by replies % 2 ^ 64
  dropped-all =
      sum_of _ _ (sums samples (λ st. (health_of st).dropped_packets) dropped_by (λ st c. (step-adds st c).dropped) first calls 0 (ap (λ (h : InputHealthCounters). h.dropped_packets) new-health))

  gaps-all : (health_of last).gaps_detected ≡ total gap_by replies % 2 ^ 64
  gaps-all =
      sum_of _ _ (sums samples (λ st. (health_of st).gaps_detected) gap_by (λ st c. (step-adds st c).gaps) first calls 0 (ap (λ (h : InputHealthCounters). h.gaps_detected) new-health))

  malformed-all : (health_of last).malformed_packets ≡ total malformed_by replies % 2 ^ 64
  malformed-all =
      sum_of _ _ (sums samples (λ st. (health_of st).malformed_packets) malformed_by (λ st c. (step-adds st c).malformed) first calls 0 (ap (λ (h : InputHealthCounters). h.malformed_packets) new-health))

  missing-all : Flow (unwrap_or (pending_of first).missing 0) (unwrap_or (pending_of last).missing 0) (total (to_missing rate) replies) (drained drains_missing calls replies)
  missing-all =
      flows samples rate (λ st. unwrap_or (pending_of st).missing 0) (to_missing rate) drains_missing
      (λ st c r. subst (λ (x : Float). Flow (unwrap_or (pending_of st).missing 0) (unwrap_or (pending_of (step st c).state).missing 0) (to_missing x (step st c).reply.answer) (pick (drains_missing c) (held_by (step st c).reply.answer) 0)) r (step-moves st c).missing)
      first
      calls
      new-rate

  discontinuity-all : Flow (unwrap_or (pending_of first).discontinuity 0) (unwrap_or (pending_of last).discontinuity 0) (total (to_discontinuity rate) replies) (drained drains_discontinuity calls replies)
  discontinuity-all =
      flows samples rate (λ st. unwrap_or (pending_of st).discontinuity 0) (to_discontinuity rate) drains_discontinuity
      (λ st c r. subst (λ (x : Float). Flow (unwrap_or (pending_of st).discontinuity 0) (unwrap_or (pending_of (step st c).state).discontinuity 0) (to_discontinuity x (step st c).reply.answer) (pick (drains_discontinuity c) (held_by (step st c).reply.answer) 0)) r (step-moves st c).discontinuity)
      first
      calls
      new-rate

pub counts : (samples : List Float) → Counts samples
counts samples s now calls ok =
    record {
      dropped = dropped-all samples s now calls ok;
      gaps = gaps-all samples s now calls ok;
      malformed = malformed-all samples s now calls ok;
      loss = loss-of _ _ (dropped-all samples s now calls ok);
      missing = λ h. slot_of samples s now calls ok _ _ _ _ (ap (λ (q : Pending). unwrap_or q.missing 0) (new-pending samples s now calls ok)) h (missing-all samples s now calls ok);
      discontinuity = λ h. slot_of samples s now calls ok _ _ _ _ (ap (λ (q : Pending). unwrap_or q.discontinuity 0) (new-pending samples s now calls ok)) h (discontinuity-all samples s now calls ok);
    }
