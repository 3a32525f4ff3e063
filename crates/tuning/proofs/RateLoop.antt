-- What the loop of `rate_khz` keeps: so many Hz, doubled for each further test, are the highest rate, and a rate that passes is among
-- these. Assumes nothing.
use mathlib.Core.Path.{◌≡◌, sym, ap, ◌∙◌, subst}
use Prim.Native.Nat.{ℕ, zero, suc, ◌-◌, ◌*◌, ◌/◌, ◌^◌, ◌≤◌, ◌<◌}
use native.Mathlib.Nat.{mul-one, le_trans, le_of_eq, le-mul_of_pos_right, not-suc-le-zero}
use native.Mathlib.Omega.{arith}
use mathlib.Core.Bool.{true, false}
use mathlib.Core.List.{[], ◌∷◌}
use lib.Pow.{pow_pos}
use lib.Dec.{lit≤, lit<}
use lib.Ieee.{Float}
use lib.Ieee.Positive.{first_pos}
use Rattle.base.specs.Told.{gives, refused}
use Rattle.tuning.specs.Rate.{is_hz, is_doubled, is_rate, rate_told}
use Rattle.tuning.proofs.Doublings.{twice, once, none_left, later}
use Rattle.tuning.proofs.Rates.{highest, hz-value, value-khz, told-khz, told_none}

-- a rate, so many Hz, and how many tests are left: with none, no rate passed
abbrev pub Going : Float → ℕ → ℕ → Type 0
Going x hz zero = (hz ≡ highest * 2) × (is_rate x ≡ false)
Going x hz (suc n) = (hz * 2 ^ n ≡ highest) × (is_rate x ≡ is_doubled n hz x)

module _ (x : Float) (hz : ℕ) where
  most : (n : ℕ) → Going x hz (suc n) → hz ≤ highest
  most n g = le_trans (le-mul_of_pos_right hz (pow_pos n)) (le_of_eq g.0)

  -- a bound that holds where no test is left, too: what is doubled last is not put to the test
  pub going-few : (left : ℕ) → Going x hz left → hz ≤ 2 ^ 20
  going-few zero g = le_trans (le_of_eq g.0) (lit≤ tt)
  going-few (suc n) g = le_trans (most n g) (lit≤ tt)

  -- a test that fails
  pub going_on : (left : ℕ) → 0 < left → is_hz hz x ≡ false → Going x hz left → Going x (hz * 2) (left - 1)
  going_on zero h e g = absurd (not-suc-le-zero h)
  going_on (suc n) h e g = subst (Going x (hz * 2)) (less n) (past n g)
    where
      less : (n : ℕ) → n ≡ suc n - 1
      less n = omega arith

      past : (n : ℕ) → Going x hz (suc n) → Going x (hz * 2) n
      past zero g = (ap (λ (z : ℕ). z * 2) (sym (mul-one hz) ∙ g.0), g.1 ∙ none_left x hz e)
      past (suc n) g = (twice hz n ∙ g.0, g.1 ∙ later x n hz e)

  pub going-none : (left : ℕ) → left ≡ 0 → Going x hz left → refused 3 [] ≡ rate_told x
  going-none left z g = told_none x (subst (Going x hz) z g).1

  pub going-found : (left : ℕ) → 0 < left → is_hz hz x ≡ true → Going x hz left → gives (hz / 1000 ∷ []) ≡ rate_told x
  going-found zero h e g = absurd (not-suc-le-zero h)
  going-found (suc n) h e g =
      ap (λ (k : ℕ). gives (k ∷ [])) (sym (value-khz hz (most n g) x (hz-value hz (most n g) x some e))) ∙ told-khz x (g.1 ∙ once x n hz e)
    where
      some : 0 < hz
      some = first_pos hz (2 ^ n) (subst (λ (z : ℕ). 0 < z) (sym g.0) (lit< tt))
