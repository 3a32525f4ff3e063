-- Elapsed time and the park window, from the numbers that the code works them out of. Assumes nothing.
use Rattle.std.specs.Prelude.{Option, Some, None}
use Rattle.model.specs.declared.receiver.Parked.{Parked}
use Prim.Native.Nat.{ℕ, ◌+◌, ◌-◌, ◌≤◌, ◌<◌, min, max}
use mathlib.Core.Path.{◌≡◌, sym, ap, ◌∙◌}
use native.Mathlib.Omega.{arith}
use lib.Ieee.{Float}
use borrow.Author.Tests.{le-leb, lt-leb}
use Rattle.base.proofs.Picks.{pick-t, pick-f}
use Rattle.double.specs.Whole.{most}
use Rattle.stream.specs.Elapsed.{account_time}
use Rattle.model.specs.Rules.{elapsed, used}

-- ---- elapsed time

module _ (rate : Float) (accepted : ℕ) (w : Option Parked) (now : ℕ) where
  pub outside : w ≡ None → {since : ℕ} → since ≡ now - accepted → since ≡ elapsed rate accepted w now
  unfolding elapsed
  outside e s = s ∙ ap (λ (x : Option Parked). elapsed rate accepted x now) (sym e)

  module _ (p : Parked) (e : w ≡ Some p) {since pause time rest : ℕ} (hs : since ≡ now - accepted) (hp : pause ≡ now - p.from)
      (ht : time ≡ account_time p.accounted rate) (hr : rest ≡ pause - time) where
    rest-is : rest ≡ now - p.from - account_time p.accounted rate
    rest-is = hr ∙ ap (λ (n : ℕ). n - time) hp ∙ ap (λ (n : ℕ). now - p.from - n) ht

    pub parked-max : max since rest ≡ elapsed rate accepted w now
    unfolding elapsed
    parked-max =
        ap (max since) rest-is
        ∙ ap (λ (n : ℕ). max n (now - p.from - account_time p.accounted rate)) hs
        ∙ sym (ap (λ (x : Option Parked). elapsed rate accepted x now) e)

-- ---- the window after an accepted arrival

module _ (w : Option Parked) (missing : ℕ) where
  pub used-none : w ≡ None → None ≡ used w missing
  unfolding used
  used-none e = sym (ap (λ (x : Option Parked). used x missing) e)

  module _ (p : Parked) where
    pub used-last : w ≡ Some p → p.left ≤ 1 → None ≡ used w missing
    unfolding used
    used-last e h = sym (ap (λ (x : Option Parked). used x missing) e ∙ pick-t _ _ _ (le-leb p.left 1 h))

    pub used-one : (heard all : ℕ) → w ≡ Some p → 1 < p.left → heard ≡ min (p.accounted + 238) most → all ≡ min (heard + missing) most
        → Some (record { from = p.from; accounted = all; left = p.left - 1 }) ≡ used w missing
    unfolding used
    used-one heard all e h hh ha =
        let s : all ≡ min (p.accounted + (238 + missing)) most = omega (arith, ha, hh) in
        ap (λ (n : ℕ). Some (record { from = p.from; accounted = n; left = p.left - 1 })) s ∙ sym (ap (λ (x : Option Parked). used x missing) e ∙ pick-f _ _ _ (lt-leb p.left 1 h))
