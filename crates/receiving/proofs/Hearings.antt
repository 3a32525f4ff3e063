-- A valid I/Q datagram, from the parts that the code makes of it: the number judged, the samples read, and what is
-- reported. Assumes nothing.
use Rattle.std.specs.Prelude.{Result}
use Rattle.iq.specs.declared.IqError.{IqError}
use Prim.Native.Nat.{ℕ}
use mathlib.Core.Path.{◌≡◌, refl, sym, ap, ◌∙◌}
use mathlib.Core.Bool.{false}
use mathlib.Core.List.{List, [], ◌∷◌, ◌++◌, append-nil}
use lib.ListN.{length, drop_of_length-le}
use lib.Ieee.{Float}
use native.Mathlib.Omega.{arith}
use Rattle.base.specs.Told.{gives}
use Rattle.base.proofs.Picks.{pick-t, pick-f}
use Rattle.octets.proofs.Tables.{length-tab}
use Rattle.octets.proofs.Writes.{written-front}
use Rattle.stream.specs.Elapsed.{jump_limit}
use Rattle.sequence.specs.Tracker.{Observed, observed}
use Rattle.sequence.specs.declared.SeqTracker.{SeqTracker}
use Rattle.iq.specs.Iq.{header_told, samples_of, Parsed}
use Rattle.iq.proofs.Headers.{parsed-samples}
use Rattle.sequence.specs.declared.SeqEvent.{SeqEvent}
use Rattle.sequence.specs.declared.SeqEvent.TheVariants.{InOrder, Gap, Stale, Restart}
use Rattle.health.specs.declared.InputHealthCounters.{InputHealthCounters}
use Rattle.model.specs.Rules.{elapsed, capped, missing_of, pending_after, is_stale}
use Rattle.model.specs.Hearing.{valid, event_of, left_out, queued, accepted_by, counted}
use Rattle.model.specs.Parts.{with_tracker, with_pending}
use Rattle.model.specs.Host.{Incoming}
use Rattle.model.specs.declared.receiver.Pending.{Pending}
use Rattle.model.specs.declared.receiver.Receiver.{Receiver}
use Rattle.outage.specs.Report.{Report, report_of, missing_by}
use Rattle.receiving.specs.Hears.{Hears}

-- ---- the number judged

module _ (rate : Float) (r : Receiver) (now count : ℕ) (seen : SeqEvent) (tracker : SeqTracker)
    (hs : record { event = seen; tracker = tracker } ≡ observed r.tracker count) where
  pub judged-event : (since limit : ℕ) (event : SeqEvent) → since ≡ elapsed rate r.last_accepted_iq r.parked now → limit ≡ jump_limit since rate → event ≡ capped limit seen
      → event ≡ event_of rate r now count
  unfolding event_of
  judged-event since limit event he hl hc =
      hc
      ∙ ap (λ (x : Observed). capped limit x.event) hs
      ∙ ap (λ (n : ℕ). capped n (observed r.tracker count).event) (hl ∙ ap (λ (n : ℕ). jump_limit n rate) he)

  pub judged-receiver : (heard : Receiver) → heard ≡ valid (with_tracker r tracker) now → heard ≡ left_out r now count
  unfolding left_out
  judged-receiver heard hv = hv ∙ ap (λ (x : Observed). valid (with_tracker r x.tracker) now) hs

-- ---- its samples

-- the samples of a datagram with a right header fill the lent array
pub filled : (b : List ℕ) (d : List Float) (count : ℕ) (r : Result ℕ IqError) (e : List Float) → gives (count ∷ []) ≡ header_told b → length d ≡ 476 → Parsed b d r e
    → e ≡ samples_of b
unfolding samples_of
filled b d count r e h l p =
    parsed-samples b d count h r e (omega arith) p
    ∙ written-front d (samples_of b) 476 (length-tab 476 _)
    ∙ ap (λ (x : List Float). samples_of b ++ x) (drop_of_length-le d {i = 476} (omega arith))
    ∙ append-nil (samples_of b)

-- ---- what is heard

not-stale : (e : SeqEvent) → (e ≡ Stale → ⊥) → is_stale e ≡ false
not-stale InOrder n = refl
not-stale (Gap k) n = refl
not-stale Stale n = absurd (n refl)
not-stale Restart n = refl

module _ (rate : Float) (r : Receiver) (health : InputHealthCounters) (lent : List Float) (count : ℕ) (i : Incoming) (event : SeqEvent) (valid : Receiver)
    (judged : (event ≡ event_of rate r i.now count) × (valid ≡ left_out r i.now count)) where
  pub heard-stale : event ≡ Stale → Hears rate r health lent count i (record { event = event; missing = 0 }) valid health lent
  unfolding missing_of counted
  heard-stale e =
      let t = ap is_stale e in
      record {
        event = judged.0;
        missing = sym (ap (λ (x : SeqEvent). missing_by rate x (left_out r i.now count) i) e);
        receiver = judged.1 ∙ sym (pick-t _ _ _ t);
        health = sym (ap (λ (x : SeqEvent). counted x health) e);
        samples = sym (pick-t _ _ _ t);
      }

  pub heard-accepted : (missing : ℕ) (told after : Receiver) (counts : InputHealthCounters) (e : List Float) → (event ≡ Stale → ⊥)
      → record { missing = missing; pending = told.pending; health = counts } ≡ report_of rate event (missing_by rate event valid i) valid.pending health
      → told ≡ with_pending valid told.pending → after ≡ queued told i.now missing told.pending → e ≡ samples_of i.octets
      → Hears rate r health lent count i (record { event = event; missing = missing }) after counts e
  unfolding report_of accepted_by left_out
  heard-accepted missing told after counts e n hr kept ha hs =
      let f = not-stale event n in
      let m : missing ≡ missing_by rate event valid i = ap (λ (x : Report). x.missing) hr in
      let p : told.pending ≡ pending_after rate event missing valid.pending =
      ap (λ (x : Report). x.pending) hr ∙ ap (λ (k : ℕ). pending_after rate event k valid.pending) (sym m) in
      record {
        event = judged.0;
        missing = m ∙ ap (λ (x : Receiver). missing_by rate event x i) judged.1;
        receiver =
            ha
            ∙ ap (λ (x : Receiver). queued x i.now missing told.pending) kept
            ∙ ap (λ (x : Pending). queued (with_pending valid x) i.now missing x) p
            ∙ ap (λ (x : Receiver). queued x i.now missing (pending_after rate event missing x.pending)) judged.1
            ∙ sym (pick-f _ _ _ f);
        health = ap (λ (x : Report). x.health) hr;
        samples = hs ∙ sym (pick-f _ _ _ f);
      }
