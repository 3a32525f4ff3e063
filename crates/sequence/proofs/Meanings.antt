-- What a number is told, by the tests that the code makes in turn, and the tracker after each event. Assumes nothing.
use Rattle.std.specs.Prelude.{Option, Some, None}
use Rattle.std.proofs.Common.{◌≡◌, ℕ, ◌+◌, ◌-◌, ◌%◌, ◌^◌, ◌<◌, ◌≤◌, Bool, true, false, eqb, ◌≢◌, sym, refl, ap, ◌∙◌, arith, le-ltb, lt-ltb, eq-eqb, ne_eqb, le-leb, leb-false}
use borrow.Author.Tests.{lt-leb}
use Rattle.base.specs.Pick.{pick}
use Rattle.base.proofs.Picks.{pick-t, pick-f}
use Rattle.sequence.specs.Tracker.{less, ahead, behind, zero_restarts, eighth, meant, meaning, rebaselined, moved, observed, Moved}
use Rattle.sequence.specs.Tracker.{Observed}
use Rattle.sequence.specs.declared.SeqEvent.{SeqEvent}
use Rattle.sequence.specs.declared.SeqEvent.TheVariants.{InOrder, Gap, Stale, Restart}
use Rattle.sequence.specs.declared.SeqTracker.{SeqTracker}

-- a wrapping subtract's difference
pub less-is : (x seq : ℕ) → x < 2 ^ 32 → (seq + (2 ^ 32 - x)) % 2 ^ 32 ≡ less seq x
unfolding less
less-is x seq k = omega arith

-- ---- the tests in turn

module _ (d run seq : ℕ) where
  pub in_order : d ≡ 0 → InOrder ≡ meant d run seq
  unfolding meant
  in_order a = sym (pick-t _ _ _ (eq-eqb d 0 a))

  module _ (a : d ≢ 0) where
    pub at_zero : zero_restarts seq ≡ true → Restart ≡ meant d run seq
    unfolding meant
    at_zero z = sym (pick-f _ _ _ (ne_eqb d 0 a) ∙ pick-t _ _ _ z)

    module _ (z : zero_restarts seq ≡ false) where
      pub gap : d < 0x8000_0000 → Gap d ≡ meant d run seq
      unfolding meant
      gap l = sym (pick-f _ _ _ (ne_eqb d 0 a) ∙ pick-f _ _ _ z ∙ pick-t _ _ _ (lt-ltb d 0x8000_0000 l))

      module _ (l : 0x8000_0000 ≤ d) where
        lies-below : meant d run seq ≡ pick (behind d) (pick (eighth run) Restart Stale) Restart
        unfolding meant
        lies-below = pick-f _ _ _ (ne_eqb d 0 a) ∙ pick-f _ _ _ z ∙ pick-f _ _ _ (le-ltb d 0x8000_0000 l)

        pub far : d < 0xffff_ffc0 → Restart ≡ meant d run seq
        far m = sym (lies-below ∙ pick-f _ _ _ (lt-leb 0xffff_ffc0 d m))

        pub one-too-many : 0xffff_ffc0 ≤ d → 7 ≤ run → Restart ≡ meant d run seq
        one-too-many m r = sym (lies-below ∙ pick-t _ _ _ (le-leb 0xffff_ffc0 d m) ∙ pick-t _ _ _ (le-leb 8 (run + 1) (omega arith)))

        pub stale : 0xffff_ffc0 ≤ d → run < 7 → Stale ≡ meant d run seq
        stale m r = sym (lies-below ∙ pick-t _ _ _ (le-leb 0xffff_ffc0 d m) ∙ pick-f _ _ _ (lt-leb 8 (run + 1) (omega arith)))

-- ---- Stale is told only after at most six such: the run never passes seven

by_tests : (a b c e f : Bool) (d : ℕ) → pick a InOrder (pick b Restart (pick c (Gap d) (pick e (pick f Restart Stale) Restart))) ≡ Stale → f ≡ false
unfolding pick
by_tests true b c e f d h = cc
by_tests false true c e f d h = cc
by_tests false false true e f d h = cc
by_tests false false false false f d h = cc
by_tests false false false true true d h = cc
by_tests false false false true false d h = refl

stale-run-small : (d run seq : ℕ) → meant d run seq ≡ Stale → run < 7
unfolding meant
stale-run-small d run seq h = omega (arith, leb-false 8 (run + 1) (by_tests (eqb d 0) (zero_restarts seq) (ahead d) (behind d) (eighth run) d h))

stale-small : (x : Option ℕ) (run seq : ℕ) → meaning x run seq ≡ Stale → run < 7
stale-small None run seq h = let z : ◌≡◌ {A = ℕ} 0 1 = cc in absurd (omega arith)
stale-small (Some x) run seq h = stale-run-small (less seq x) run seq h

-- ---- the tracker after each event

module _ (t : SeqTracker) (seq : ℕ) where
  seen : (e : SeqEvent) → e ≡ meaning t.expected t.stale_run seq → moved t seq e ≡ observed t seq
  unfolding observed
  seen e h = ap (moved t seq) h

  accepted : (e : SeqEvent) → (e ≡ Stale → ⊥) → rebaselined seq e ≡ moved t seq e
  accepted InOrder n = refl
  accepted (Gap d) n = refl
  accepted Restart n = refl
  accepted Stale n = absurd (n refl)

  pub seen_first : (r : Observed) → t.expected ≡ None → r ≡ rebaselined seq InOrder → r ≡ observed t seq
  seen_first r h b = b ∙ seen InOrder (sym (ap (λ (x : Option ℕ). meaning x t.stale_run seq) h))

  module _ (x : ℕ) (e : SeqEvent) (h : t.expected ≡ Some x) (k : e ≡ meaning (Some x) t.stale_run seq) where
    next : e ≡ meaning t.expected t.stale_run seq
    next = k ∙ sym (ap (λ (x : Option ℕ). meaning x t.stale_run seq) h)

    pub seen-accepted : (r : Observed) → (e ≡ Stale → ⊥) → r ≡ rebaselined seq e → r ≡ observed t seq
    seen-accepted r n b = b ∙ accepted e n ∙ seen e next

    pub seen-stale : e ≡ Stale → ◌≡◌ {A = Observed} (record { event = e; tracker = record { expected = t.expected; stale_run = t.stale_run + 1 } }) (observed t seq)
    seen-stale s =
        ap (λ (v : SeqEvent). record { event = v; tracker = record { expected = t.expected; stale_run = t.stale_run + 1 } }) s
        ∙ seen Stale (sym s ∙ next)

    pub run_small : e ≡ Stale → t.stale_run < 7
    run_small s = stale-small (Some x) t.stale_run seq (sym k ∙ s)

-- ---- after any number at all the stale run is at most seven

pub run-at-most : (t : SeqTracker) (seq : ℕ) → (observed t seq).tracker.stale_run ≤ 7
unfolding observed
run-at-most t seq = go (meaning t.expected t.stale_run seq) (stale-small t.expected t.stale_run seq)
  where
    go : (e : SeqEvent) → (e ≡ Stale → t.stale_run < 7) → (moved t seq e).tracker.stale_run ≤ 7
    go InOrder h = omega arith
    go (Gap d) h = omega arith
    go Restart h = omega arith
    go Stale h = omega (arith, h refl)

-- ---- the tracker after a number, whatever it was told

moved-so : (t : SeqTracker) (seq : ℕ) (event : SeqEvent) → Moved t seq (moved t seq event).event (moved t seq event).tracker
moved-so t seq InOrder = refl
moved-so t seq (Gap d) = refl
moved-so t seq Stale = (refl, refl)
moved-so t seq Restart = refl

pub observed-moves : (t : SeqTracker) (seq : ℕ) → Moved t seq (observed t seq).event (observed t seq).tracker
unfolding observed
observed-moves t seq = moved-so t seq (meaning t.expected t.stale_run seq)
