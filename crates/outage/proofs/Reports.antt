-- A report of an event, from its parts. Assumes nothing.
use Prim.Native.Nat.{ℕ, ◌*◌}
use mathlib.Core.Path.{◌≡◌, ap, sym, ◌∙◌}
use mathlib.Core.Logic.{◌⊎◌, inl, inr}
use lib.Ieee.{Float}
use mathlib.Core.Bool.{true, false}
use Rattle.base.proofs.Picks.{pick-t, pick-f}
use Rattle.sequence.specs.declared.SeqEvent.{SeqEvent}
use Rattle.sequence.specs.declared.SeqEvent.TheVariants.{InOrder, Gap, Stale, Restart}
use Rattle.health.specs.declared.InputHealthCounters.{InputHealthCounters}
use Rattle.stream.specs.Elapsed.{restart_missing, below_half}
use Rattle.model.specs.Parts.{with_missing, with_discontinuity}
use Rattle.model.specs.Rules.{missing_of, added, pending_after}
use Rattle.model.specs.Hearing.{restart_of, counted}
use Rattle.model.specs.declared.receiver.Receiver.{Receiver}
use Rattle.model.specs.declared.receiver.Pending.{Pending}
use Rattle.model.specs.Host.{Incoming}
use Rattle.outage.specs.Report.{Report, report_of, missing_by, outage_of}

module _ (rate : Float) (e : SeqEvent) (missing : ℕ) (p : Pending) (h : InputHealthCounters) where
  abbrev made : Pending → InputHealthCounters → Report
  made q g = record { missing = missing; pending = q; health = g }

  pub reported : (q : Pending) (g : InputHealthCounters) → q ≡ pending_after rate e missing p → g ≡ counted e h → made q g ≡ report_of rate e missing p h
  unfolding report_of
  reported q g eq eg = ap (λ (x : Pending). made x g) eq ∙ ap (made (pending_after rate e missing p)) eg

-- ---- a gap of k: its missing, then the slot that this goes to

module _ (rate : Float) (k : ℕ) (p : Pending) (h : InputHealthCounters) (n : ℕ) (q : Pending) (g : InputHealthCounters) (c : g ≡ counted (Gap k) h) where
  gap-reported : q ≡ pending_after rate (Gap k) n p → n ≡ 238 * k → record { missing = n; pending = q; health = g } ≡ report_of rate (Gap k) (238 * k) p h
  gap-reported s e = reported rate (Gap k) n p h q g s c ∙ ap (λ (m : ℕ). report_of rate (Gap k) m p h) e

  pub gap-short : q ≡ with_missing p (added p.missing n) → below_half n rate ≡ true → n ≡ 238 * k → record { missing = n; pending = q; health = g } ≡ report_of rate (Gap k) (238 * k) p h
  unfolding pending_after
  gap-short s b = gap-reported (s ∙ sym (pick-t _ _ _ b))

  pub gap-long : q ≡ with_discontinuity p (added p.discontinuity n) → below_half n rate ≡ false → n ≡ 238 * k → record { missing = n; pending = q; health = g } ≡ report_of rate (Gap k) (238 * k) p h
  unfolding pending_after
  gap-long s b = gap-reported (s ∙ sym (pick-f _ _ _ b))

-- ---- what the code reports of an event

module _ (rate : Float) (event : SeqEvent) (r : Receiver) (h : InputHealthCounters) (i : Incoming) where
  abbrev told : SeqEvent → Report
  told e = report_of rate e (missing_by rate e r i) r.pending h

  pub nothing-told : event ≡ InOrder ⊎ event ≡ Stale → made rate event 0 r.pending h r.pending h ≡ told event
  unfolding report_of missing_of pending_after counted
  nothing-told (inl e) = ap told (sym e)
  nothing-told (inr e) = ap told (sym e)

  pub gap-told : (k : ℕ) (q : Report) → event ≡ Gap k → q ≡ report_of rate (Gap k) (238 * k) r.pending h → q ≡ told event
  unfolding missing_of
  gap-told k q e g = g ∙ ap told (sym e)

  pub restart-told : (t : ℕ) (q : Report) → event ≡ Restart → t ≡ outage_of rate r i
      → q ≡ report_of rate Restart (restart_missing t rate) r.pending h → q ≡ told event
  unfolding missing_of restart_of
  restart-told t q e o g = g ∙ ap (λ (n : ℕ). report_of rate Restart (restart_missing n rate) r.pending h) o ∙ ap told (sym e)
