-- A gap over the limit is a restart: the cases of an event. Assumes nothing.
use Prim.Native.Nat.{ℕ, ◌≤◌, ◌<◌}
use mathlib.Core.Path.{◌≡◌, refl, sym, ap, ◌∙◌}
use borrow.Author.Tests.{le-leb, lt-leb}
use Rattle.base.proofs.Picks.{pick-t, pick-f}
use Rattle.sequence.specs.declared.SeqEvent.{SeqEvent}
use Rattle.sequence.specs.declared.SeqEvent.TheVariants.{InOrder, Gap, Stale, Restart}
use Rattle.model.specs.Rules.{capped}

module _ (limit : ℕ) (e : SeqEvent) where
  pub capped-other : ((k : ℕ) → e ≡ Gap k → ⊥) → e ≡ capped limit e
  unfolding capped
  capped-other n = go e n
    where
      go : (e : SeqEvent) → ((k : ℕ) → e ≡ Gap k → ⊥) → e ≡ capped limit e
      go InOrder n = refl
      go (Gap k) n = absurd (n k refl)
      go Stale n = refl
      go Restart n = refl

  module _ (k : ℕ) (g : e ≡ Gap k) where
    pub capped-within : k ≤ limit → Gap k ≡ capped limit e
    unfolding capped
    capped-within h = sym (ap (capped limit) g ∙ pick-t _ _ _ (le-leb k limit h))

    pub capped-over : limit < k → Restart ≡ capped limit e
    unfolding capped
    capped-over h = sym (ap (capped limit) g ∙ pick-f _ _ _ (lt-leb k limit h))
