-- The walk over the waiting numbers: of as many as an Arrival takes, the total saturates for none. Assumes nothing.
use Rattle.std.specs.Prelude.{Option, Some, None}
use Rattle.std.proofs.Common.{◌≡◌, ℕ, ◌*◌, ◌<◌, ◌≤◌, min, List, [], ◌∷◌, length, arith, ltb-true}
use Rattle.base.proofs.Picks.{pick-either}
use Rattle.double.specs.Whole.{most}
use Rattle.sequence.specs.Tracker.{less, meant, meaning, moved, observed}
use Rattle.sequence.specs.declared.SeqEvent.{SeqEvent}
use Rattle.sequence.specs.declared.SeqEvent.TheVariants.{InOrder, Gap, Stale, Restart}
use Rattle.sequence.specs.declared.SeqTracker.{SeqTracker}
use Rattle.model.specs.Rules.{capped, datagrams, backlog}

-- a gap is told of a number that lies less than 2^31 past the expected one
abbrev Small : SeqEvent → Type 0
Small InOrder = Unit {0}
Small (Gap k) = k < 2147483648
Small Stale = Unit {0}
Small Restart = Unit {0}

meant_small : (d run seq : ℕ) → Small (meant d run seq)
unfolding meant
meant_small d run seq =
    pick-either _ _ _ Small (λ e. tt)
    (λ e. pick-either _ _ _ Small (λ e. tt)
    (λ e. pick-either _ _ _ Small (λ e. ltb-true d 2147483648 e)
    (λ e. pick-either _ _ _ Small (λ e. pick-either _ _ _ Small (λ e. tt) (λ e. tt)) (λ e. tt))))

meaning-small : (x : Option ℕ) (run seq : ℕ) → Small (meaning x run seq)
meaning-small None run seq = tt
meaning-small (Some x) run seq = meant_small (less seq x) run seq

module _ (t : SeqTracker) (seq : ℕ) where
  moved-small : (e : SeqEvent) → Small e → Small (moved t seq e).event
  moved-small InOrder h = h
  moved-small (Gap k) h = h
  moved-small Stale h = h
  moved-small Restart h = h

  observed-small : Small (observed t seq).event
  unfolding observed
  observed-small = moved-small (meaning t.expected t.stale_run seq) (meaning-small t.expected t.stale_run seq)

few : (limit : ℕ) (e : SeqEvent) → Small e → datagrams (capped limit e) ≤ 2147483648
unfolding capped datagrams
few limit InOrder h = omega arith
few limit (Gap k) h = pick-either _ _ _ (λ e. datagrams e ≤ 2147483648) (λ e. omega arith) (λ e. omega arith)
few limit Stale h = omega arith
few limit Restart h = omega arith

module _ (limit : ℕ) where
  backlog-few : (t : SeqTracker) (w : List ℕ) → backlog limit t w ≤ length w * 2147483648
  unfolding backlog
  backlog-few t [] = omega arith
  backlog-few t (seq ∷ w) = omega (arith, few limit (observed t seq).event (observed-small t seq), backlog-few (observed t seq).tracker w)

  pub uncut : (t : SeqTracker) (w : List ℕ) → length w ≤ 8192 → min (backlog limit t w) most ≡ backlog limit t w
  uncut t w h = omega (arith, backlog-few t w)
