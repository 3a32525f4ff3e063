-- The tracker after an arrival, by what the arrival is told. Assumes nothing.
use Rattle.std.specs.Prelude.{Option, Some, None}
use Prim.Native.Nat.{ℕ, ◌+◌}
use mathlib.Core.Path.{◌≡◌, refl, sym, ap, ◌∙◌}
use mathlib.Core.Bool.{true, false}
use native.Mathlib.Omega.{arith}
use lib.Dec.{leb}
use lib.IntN.{ℤ, pos, ◌+ℤ◌}
use Rattle.base.proofs.Picks.{pick-either}
use Rattle.sequence.specs.Tracker.{after, past, less, meant, meaning, moved, observed}
use Rattle.sequence.specs.declared.SeqEvent.{SeqEvent}
use Rattle.sequence.specs.declared.SeqEvent.TheVariants.{InOrder, Gap, Stale, Restart}
use Rattle.sequence.specs.declared.SeqTracker.{SeqTracker}
use Rattle.model.specs.Rules.{capped, is_stale}
use Rattle.account.specs.Whole.{count_of}
use Rattle.account.specs.Demand3.{NearIn}
use Rattle.account.specs.Exact.{verdict_in}
use Rattle.account.proofs.Numbers.{count-on, verdict-told}
use Rattle.account.proofs.Same.{sent_as}

-- the tracker past n is the book's, expecting n + 1
pub past-sent : (n : ℤ) → past (count_of n) ≡ sent_as (Some (n +ℤ pos 1)) 0
unfolding after
past-sent n = ap (λ (k : ℕ). record { expected = Some k; stale_run = 0 }) (sym (count-on n 1))

moved-event : (t : SeqTracker) (seq : ℕ) (ev : SeqEvent) → (moved t seq ev).event ≡ ev
moved-event t seq InOrder = refl
moved-event t seq (Gap k) = refl
moved-event t seq Stale = refl
moved-event t seq Restart = refl

-- the tracker, and the limit, tell the verdict
pub tells-in : (o : Option ℤ) (lim run : ℕ) (n : ℤ) → NearIn o n → capped lim (observed (sent_as o run) (count_of n)).event ≡ verdict_in o lim run n
unfolding observed capped
tells-in None lim run n near = refl
tells-in (Some e) lim run n near =
    ap (capped lim) (moved-event (sent_as (Some e) run) (count_of n) (meant (less (count_of n) (count_of e)) run (count_of n)))
    ∙ verdict-told lim run e n near

module _ (t : SeqTracker) (lim seq : ℕ) where
  gap-not-stale : (k : ℕ) → is_stale (capped lim (Gap k)) ≡ false
  unfolding capped
  gap-not-stale k = pick-either (leb k lim) (Gap k) Restart (λ (v : SeqEvent). is_stale v ≡ false) (λ _. refl) (λ _. refl)

  moved_on : (ev : SeqEvent) → is_stale (capped lim ev) ≡ false → (moved t seq ev).tracker ≡ past seq
  unfolding capped
  moved_on InOrder h = refl
  moved_on (Gap k) h = refl
  moved_on Restart h = refl
  moved_on Stale h = let z : ◌≡◌ {A = ℕ} 0 1 = cc in absurd (omega arith)

  stays : (ev : SeqEvent) → is_stale (capped lim ev) ≡ true → (moved t seq ev).tracker ≡ record { expected = t.expected; stale_run = t.stale_run + 1 }
  unfolding capped
  stays Stale h = refl
  stays InOrder h = let z : ◌≡◌ {A = ℕ} 0 1 = cc in absurd (omega arith)
  stays Restart h = let z : ◌≡◌ {A = ℕ} 0 1 = cc in absurd (omega arith)
  stays (Gap k) h = let g = gap-not-stale k in let z : ◌≡◌ {A = ℕ} 0 1 = cc in absurd (omega arith)

  -- an accepted arrival sets the expected number and empties the stale run
  pub accepted-tracker : is_stale (capped lim (observed t seq).event) ≡ false → (observed t seq).tracker ≡ past seq
  unfolding observed
  accepted-tracker h = moved_on (meaning t.expected t.stale_run seq) (ap (λ (v : SeqEvent). is_stale (capped lim v)) (sym (moved-event t seq (meaning t.expected t.stale_run seq))) ∙ h)

  -- a stale one makes the stale run one longer, and that is all
  pub stale-tracker : is_stale (capped lim (observed t seq).event) ≡ true → (observed t seq).tracker ≡ record { expected = t.expected; stale_run = t.stale_run + 1 }
  unfolding observed
  stale-tracker h = stays (meaning t.expected t.stale_run seq) (ap (λ (v : SeqEvent). is_stale (capped lim v)) (sym (moved-event t seq (meaning t.expected t.stale_run seq))) ∙ h)
