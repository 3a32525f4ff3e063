-- Products that are 0, as `lt` writes its sides where one of them is 0. Assumes nothing.
use Rattle.std.proofs.Common.{◌≡◌, ℕ, ◌*◌, ◌<◌, sym, ap, ◌∙◌, zero-mul}
use native.Mathlib.Nat.{eq_of_mul-eq-mul_right}

pub factor-zero : (m u : ℕ) → 0 < u → m * u ≡ 0 → m ≡ 0
factor-zero m u U h = eq_of_mul-eq-mul_right u U m 0 (h ∙ sym (zero-mul u))

-- the side of a 0
pub zero-side : (d : ℕ) → 0 * 1 * d ≡ 0
zero-side d = ap (λ (z : ℕ). z * d) (zero-mul 1) ∙ zero-mul d
