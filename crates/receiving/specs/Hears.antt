-- What a receiver makes of a valid I/Q datagram, in model's terms side by side. Definitions only.
use Rattle.std.specs.Prelude.{ℕ, ◌≡◌, List, Float}
use Rattle.base.specs.Pick.{pick}
use Rattle.iq.specs.Iq.{samples_of}
use Rattle.health.specs.declared.InputHealthCounters.{InputHealthCounters}
use Rattle.model.specs.Host.{Incoming}
use Rattle.model.specs.Rules.{is_stale}
use Rattle.model.specs.Hearing.{event_of, left_out, accepted_by, counted}
use Rattle.model.specs.declared.receiver.Receiver.{Receiver}
use Rattle.outage.specs.Report.{missing_by}
use Rattle.receiving.specs.declared.hear.Heard.{Heard}

-- a datagram with the number count arrives, and these samples are lent: what it is told as, and the receiver, the counts and the
-- samples then. Stale leaves the samples as they were
pub record Hears (rate : Float) (r : Receiver) (counts : InputHealthCounters) (lent : List Float) (count : ℕ) (i : Incoming) (h : Heard) (r' : Receiver)
    (counts' : InputHealthCounters) (e : List Float) : Type 0 where
  pub event : h.event ≡ event_of rate r i.now count
  pub missing : h.missing ≡ missing_by rate h.event (left_out r i.now count) i
  pub receiver : r' ≡ pick (is_stale h.event) (left_out r i.now count) (accepted_by rate r i.now count h.event h.missing)
  pub health : counts' ≡ counted h.event counts
  pub samples : e ≡ pick (is_stale h.event) lent (samples_of i.octets)
