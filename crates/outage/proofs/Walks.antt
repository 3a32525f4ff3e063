-- The walk over the waiting numbers, one turn of the loop, and what it leaves of a restart's time. Assumes nothing.
use Rattle.std.specs.Prelude.{Option, Some, None, is_some}
use Rattle.model.specs.declared.receiver.Parked.{Parked}
use Prim.Native.Nat.{ℕ, ◌+◌, ◌-◌, ◌≤◌, ◌<◌, min}
use mathlib.Core.Path.{◌≡◌, refl, sym, ap, ◌∙◌}
use mathlib.Core.List.{List, ◌∷◌}
use lib.ListN.{length, get_or, drop, drop_of_length-le}
use lib.Seq.{drop-cons}
use lib.Ieee.{Float}
use native.Mathlib.Numerals.{add-one}
use Rattle.std.proofs.Common.{true, false, true≢false}
use Rattle.double.specs.Whole.{most}
use Rattle.stream.specs.Elapsed.{jump_limit, covered_time}
use Rattle.sequence.specs.Tracker.{observed}
use Rattle.sequence.specs.Tracker.{Observed}
use Rattle.sequence.specs.declared.SeqEvent.{SeqEvent}
use Rattle.sequence.specs.declared.SeqTracker.{SeqTracker}
use Rattle.model.specs.Rules.{elapsed, capped, datagrams, backlog, uncovered, outage}

module _ (limit : ℕ) (t : SeqTracker) (w : List ℕ) where
  pub walk_more : (i : ℕ) (seen : Observed) (e : SeqEvent) (n : ℕ) → i < length w → seen ≡ observed t (get_or w i 0) → e ≡ capped limit seen.event
      → n ≡ datagrams e → n + backlog limit seen.tracker (drop (i + 1) w) ≡ backlog limit t (drop i w)
  unfolding backlog
  walk_more i seen e n h hs he hn =
      ap (λ (k : ℕ). k + backlog limit seen.tracker (drop (i + 1) w)) (hn ∙ ap datagrams he)
      ∙ ap (λ (x : Observed). datagrams (capped limit x.event) + backlog limit x.tracker (drop (i + 1) w)) hs
      ∙ ap (λ (k : ℕ). backlog limit t (get_or w i 0 ∷ drop k w)) (add-one i)
      ∙ ap (backlog limit t) (sym (drop-cons w i 0 h))

  pub walk-done : (i : ℕ) → length w ≤ i → backlog limit t (drop i w) ≡ 0
  unfolding backlog
  walk-done i h = ap (backlog limit t) (drop_of_length-le w h)

module _ (rate : Float) (accepted : ℕ) (window : Option Parked) (now later : ℕ) (t : SeqTracker) (waiting : List ℕ) where
  pub outage-outside : (since : ℕ) → is_some window ≡ false → since ≡ now - accepted → since ≡ outage rate accepted window now later t waiting
  unfolding outage elapsed
  outage-outside since e h = go window e
    where
      go : (w : Option Parked) → is_some w ≡ false → since ≡ outage rate accepted w now later t waiting
      go None e = h
      go (Some p) e = absurd (true≢false e)

  pub outage-parked : (bound total covered rest : ℕ) → is_some window ≡ true → bound ≡ elapsed rate now window later
      → total ≡ min (backlog (jump_limit bound rate) t waiting) most → covered ≡ covered_time total rate → rest ≡ bound - covered
      → rest ≡ outage rate accepted window now later t waiting
  unfolding outage uncovered
  outage-parked bound total covered rest e hb ht hc hr =
      hr
      ∙ ap (λ (k : ℕ). bound - k) (hc ∙ ap (λ (k : ℕ). covered_time k rate) ht)
      ∙ ap (λ (b : ℕ). uncovered rate b t waiting) hb
      ∙ go window e
    where
      go : (w : Option Parked) → is_some w ≡ true → uncovered rate (elapsed rate now w later) t waiting ≡ outage rate accepted w now later t waiting
      go None e = absurd (true≢false (sym e))
      go (Some p) e = refl
