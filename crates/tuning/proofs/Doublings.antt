-- So many Hz doubled none to n times: the test finds exactly these. Assumes nothing.
use mathlib.Core.Path.{◌≡◌, refl, sym, ap, ◌∙◌}
use Prim.Native.Nat.{ℕ, zero, suc, ◌*◌, ◌^◌, ◌≤◌}
use native.Mathlib.Nat.{mul-one, mul_assoc, pow-succ', le_of_suc-le-suc, not-suc-le-zero}
use native.Mathlib.Omega.{arith}
use mathlib.Core.Bool.{Bool, true, false, ◌||◌}
use lib.Ieee.{Float}
use Rattle.tuning.specs.Rate.{is_hz, is_doubled}

pub twice : (hz n : ℕ) → hz * 2 * 2 ^ n ≡ hz * 2 ^ suc n
twice hz n = mul_assoc hz 2 (2 ^ n) ∙ ap (λ (z : ℕ). hz * z) (sym (pow-succ' 2 n))

module _ (x : Float) where
  pub once : (n hz : ℕ) → is_hz hz x ≡ true → is_doubled n hz x ≡ true
  unfolding is_doubled
  once zero hz e = e
  once (suc n) hz e = ap (λ (t : Bool). t || is_doubled n (hz * 2) x) e

  pub none_left : (hz : ℕ) → is_hz hz x ≡ false → is_doubled 0 hz x ≡ false
  unfolding is_doubled
  none_left hz e = e

  pub later : (n hz : ℕ) → is_hz hz x ≡ false → is_doubled (suc n) hz x ≡ is_doubled n (hz * 2) x
  unfolding is_doubled
  later n hz e = ap (λ (t : Bool). t || is_doubled n (hz * 2) x) e

  pub found : (n hz k : ℕ) → k ≤ n → is_hz (hz * 2 ^ k) x ≡ true → is_doubled n hz x ≡ true
  unfolding is_doubled
  found n hz zero h e = once n hz (ap (λ (z : ℕ). is_hz z x) (sym (mul-one hz)) ∙ e)
  found zero hz (suc k) h e = absurd (not-suc-le-zero h)
  found (suc n) hz (suc k) h e = go (is_hz hz x) (found n (hz * 2) k (le_of_suc-le-suc h) (ap (λ (z : ℕ). is_hz z x) (twice hz k) ∙ e))
    where
      go : (b : Bool) → is_doubled n (hz * 2) x ≡ true → b || is_doubled n (hz * 2) x ≡ true
      go true f = refl
      go false f = f

  -- how often it was doubled
  pub often : (n hz : ℕ) → is_doubled n hz x ≡ true → (k : ℕ) × (k ≤ n) × (is_hz (hz * 2 ^ k) x ≡ true)
  unfolding is_doubled
  often zero hz e = (0, omega arith, ap (λ (z : ℕ). is_hz z x) (mul-one hz) ∙ e)
  often (suc n) hz e = go (is_hz hz x) refl e (often n (hz * 2))
    where
      go : (b : Bool) → is_hz hz x ≡ b → b || is_doubled n (hz * 2) x ≡ true
          → (is_doubled n (hz * 2) x ≡ true → (k : ℕ) × (k ≤ n) × (is_hz (hz * 2 * 2 ^ k) x ≡ true))
          → (k : ℕ) × (k ≤ suc n) × (is_hz (hz * 2 ^ k) x ≡ true)
      go true f t more = (0, omega arith, ap (λ (z : ℕ). is_hz z x) (mul-one hz) ∙ f)
      go false f t more = let r = more t in (suc r.0, omega arith, ap (λ (z : ℕ). is_hz z x) (sym (twice hz r.0)) ∙ r.2)
