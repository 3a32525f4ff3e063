-- A centre that the settings accept is a whole number of Hz, and its phase word is the whole-number formula. Assumes nothing.
use mathlib.Core.Path.{◌≡◌, refl, sym, ap, ◌∙◌, subst}
use Prim.Native.Nat.{ℕ, ◌*◌, ◌/◌, ◌%◌, ◌<◌, min}
use native.Mathlib.Nat.{mul-one, zero-mul, div-lt_iff_lt-mul, zero-lt-suc}
use native.Mathlib.Omega.{arith}
use mathlib.Core.Bool.{true, ◌&&◌}
use borrow.Author.Tests.{ltb-true, eqb-true}
use lib.Dec.{T}
use lib.Ieee.{Float, lt}
use lib.Ieee.Fits.{and_l, and_r}
use lib.Ieee.Bits.{is_true}
use lib.Ieee.Scale.{finite}
use lib.Ieee.Positive.{num, den, den_pos, first_pos}
use Rattle.double.specs.Whole.{most, floor_at, floor_of, is_whole}
use Rattle.double.proofs.Plain.{Plain, has_value, own-fraction}
use Rattle.double.proofs.Wholes.{nat-plain, plain-above, whole-at}
use Rattle.double.proofs.Rounded.{div-whole}
use Rattle.double.proofs.Values.{lt-of-values}
use Rattle.tuning.specs.Centre.{zero64, nyquist, whole_centre, below_nyquist, accepted_centre, Accepted}
use Rattle.tuning.specs.Phase.{phase_word_of}
use Rattle.tuning.proofs.Phases.{phase-of-value}

module _ (x : Float) (F : finite x ≡ true) (L : lt zero64 x ≡ true) (W : is_whole x ≡ true) (B : lt x nyquist ≡ true) where
  flat : Plain x
  flat = plain-above x L F

  whole : num x / den x * den x ≡ num x * 1
  whole = div-whole (num x) (den x) (eqb-true (num x % den x) 0 (sym (whole-at x F) ∙ W))

  few : num x / den x < 61440000
  few =
      (div-lt_iff_lt-mul (den_pos x)).1
      (subst (λ (z : ℕ). z < 61440000 * den x) (mul-one (num x))
      (ltb-true (num x * 1) (61440000 * den x) (sym (lt-of-values x nyquist (num x) (den x) 61440000 1 (den_pos x) (zero-lt-suc 0) (own-fraction x flat) (refl, refl)) ∙ B)))

  above : 0 < num x / den x
  above =
      first_pos (num x / den x) (den x)
      (subst (λ (z : ℕ). 0 < z) (sym whole)
      (omega (arith, zero-mul (den x), ltb-true (0 * den x) (num x * 1) (sym (lt-of-values zero64 x 0 1 (num x) (den x) (zero-lt-suc 0) (den_pos x) (refl, refl) (own-fraction x flat)) ∙ L))))

  floor-is : floor_of x ≡ num x / den x
  floor-is = nat-plain floor_at x flat ∙ small (num x / den x) few
    where
      small : (v : ℕ) → v < 61440000 → min v most ≡ v
      small v h = omega arith

  by_tests : Accepted x
  by_tests = record {
    value = has_value x (floor_of x) 1 flat (sym whole ∙ ap (λ (z : ℕ). z * den x) (sym floor-is));
    some = subst (λ (z : ℕ). 0 < z) (sym floor-is) above;
    most = subst (λ (z : ℕ). z < 61440000) (sym floor-is) few;
  }

pub accepted : (x : Float) → T (accepted_centre x) → Accepted x
unfolding whole_centre below_nyquist
accepted x t =
    let a = and_l (whole_centre x) (below_nyquist x) t in
    let b = and_r (finite x) (lt zero64 x && is_whole x) a in
    by_tests x (is_true (finite x) (and_l (finite x) (lt zero64 x && is_whole x) a)) (is_true (lt zero64 x) (and_l (lt zero64 x) (is_whole x) b))
    (is_true (is_whole x) (and_r (lt zero64 x) (is_whole x) b)) (is_true (lt x nyquist) (and_r (whole_centre x) (below_nyquist x) t))

-- every double that the settings accept
pub phase-of-accepted : (x : Float) → T (accepted_centre x) → phase_word_of x ≡ floor_of x * 65536 / 1875
phase-of-accepted x t = let a = accepted x t in phase-of-value x (floor_of x) a.value a.some a.most
