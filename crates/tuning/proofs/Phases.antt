-- The phase word of a frequency: the whole-number formula of a whole number below half the clock, 0 of a NaN and below 0, the largest u32 from the clock on. Assumes nothing.
use mathlib.Core.Path.{◌≡◌, refl, sym, ap, ◌∙◌, subst}
use Prim.Native.Nat.{ℕ, ◌+◌, ◌*◌, ◌/◌, ◌^◌, ◌≤◌, ◌<◌, min}
use native.Mathlib.Nat.{lt_of_lt_of_le, zero-lt-suc}
use native.Mathlib.Omega.{arith}
use mathlib.Core.Bool.{true, false, true≢false}
use borrow.Author.Tests.{ltb-true}
use lib.IntN.{ℤ}
use lib.Dec.{T, lit≤}
use lib.Pow.{pow_mono, shl_lt}
use lib.Ieee.{Float, nan, inf, fin, binary64, up, down, round, mul, div, lt, le, to_unsigned}
use lib.Ieee.Exact.{HasValue}
use lib.Ieee.Scale.{round_same}
use lib.Ieee.Positive.{positive, above, above_of_le}
use Rattle.double.specs.Whole.{nat_of, floor_at, floor_of}
use Rattle.double.proofs.Zeros.{zero-side}
use Rattle.double.proofs.Fractions.{floor-rising}
use Rattle.double.proofs.Wholes.{floor-zero}
use Rattle.double.proofs.Signs.{minus?, round-sign}
use Rattle.double.proofs.Floors.{cast-narrow, cast-is-floor, floor-round}
use Rattle.double.proofs.Rounded.{up-value}
use Rattle.double.proofs.Values.{nat-minus, mul-of-values, div-of-values}
use Rattle.double.proofs.Monotone.{nat-rising, mul-rising, div-rising}
use Rattle.tuning.specs.Centre.{zero64}
use Rattle.tuning.specs.Phase.{two32, clock, phase_word_of}

-- Rust's `as u32`
pub word-of-cast : (x : Float) → to_unsigned 32 (div binary64 (mul binary64 x two32) clock) ≡ phase_word_of x
unfolding phase_word_of
word-of-cast x =
    let y = div binary64 (mul binary64 x two32) clock in
    cast-narrow y ∙ ap (λ (z : ℕ). min z 4294967295) (cast-is-floor y)

-- ---- a whole number of Hz
module _ (x : Float) (n : ℕ) (v : HasValue x false n 1) (L : n < 61440000) where
  -- n * 2 ^ 32 is a double
  product : HasValue (mul binary64 x two32) false (n * 2 ^ 32) 1
  product =
      subst (λ (y : Float). HasValue y false (n * 2 ^ 32) 1)
      (sym (mul-of-values binary64 x two32 n 1 (2 ^ 32) 1 (zero-lt-suc 0) (zero-lt-suc 0) v (refl, refl)))
      (up-value binary64 false n 32 small (lt_of_lt_of_le (shl_lt 53 32 small) (pow_mono {i = 53 + 32} {j = 1024} (lit≤ tt))))
    where
      small : n < 2 ^ 53
      small = lt_of_lt_of_le L (lit≤ tt)

  quotient : div binary64 (mul binary64 x two32) clock ≡ round binary64 false (n * 65536) 1875
  quotient =
      div-of-values binary64 false (mul binary64 x two32) clock (n * 2 ^ 32) 1 122880000 1 (zero-lt-suc 0) (zero-lt-suc 122879999) product (refl, refl)
      ∙ round_same binary64 false (n * 2 ^ 32 * 1) (122880000 * 1) (n * 65536) 1875 (zero-lt-suc 122879999) (zero-lt-suc 1874) (cross n)
    where
      cross : (n : ℕ) → n * 4294967296 * 1 * 1875 ≡ n * 65536 * (122880000 * 1)
      cross n = omega arith

pub phase-of-value : (x : Float) (n : ℕ) → HasValue x false n 1 → 0 < n → n < 61440000 → phase_word_of x ≡ n * 65536 / 1875
phase-of-value x n v N L =
    sym (word-of-cast x) ∙ ap (to_unsigned 32) (quotient x n v L)
    ∙ floor-round 32 (n * 65536) 1875 21 (zero-lt-suc 1874) (lit≤ tt) (lit≤ tt) (some n N) (bound n L)
    ∙ capped n L
  where
    some : (n : ℕ) → 0 < n → 0 < n * 65536 / 1875
    some n h = omega arith

    bound : (n : ℕ) → n < 61440000 → (n * 65536 / 1875 + 1) * 2097152 ≤ 9007199254740992
    bound n h = omega arith

    capped : (n : ℕ) → n < 61440000 → min (n * 65536 / 1875) 4294967295 ≡ n * 65536 / 1875
    capped n h = omega arith

-- ---- a NaN
pub phase-of-nan : phase_word_of nan ≡ 0
unfolding phase_word_of mul div nat_of
phase-of-nan = refl

-- ---- below 0: each operation keeps the sign
sign_kept : (g : Float → Float) → minus? (g (inf true)) ≡ true → ((m : ℕ) (e : ℤ) → minus? (g (fin true m e)) ≡ true) → (x : Float) → minus? x ≡ true → minus? (g x) ≡ true
sign_kept g i f nan h = absurd (true≢false (sym h))
sign_kept g i f (inf true) h = i
sign_kept g i f (inf false) h = absurd (true≢false (sym h))
sign_kept g i f (fin true m e) h = f m e
sign_kept g i f (fin false m e) h = absurd (true≢false (sym h))

mul-minus : (x : Float) → minus? x ≡ true → minus? (mul binary64 x two32) ≡ true
unfolding mul
mul-minus = sign_kept (λ x. mul binary64 x two32) refl (λ m e. round-sign binary64 true (m * up e * (1 * 2 ^ 32)) (down e * 1))

div-minus : (x : Float) → minus? x ≡ true → minus? (div binary64 x clock) ≡ true
unfolding div
div-minus = sign_kept (λ x. div binary64 x clock) refl (λ m e. round-sign binary64 true (m * up e * 1) (1875 * 2 ^ 16 * down e))

below-minus : (x : Float) → lt x zero64 ≡ true → minus? x ≡ true
unfolding lt
below-minus nan h = h
below-minus (inf s) h = h
below-minus (fin true m e) h = refl
below-minus (fin false m e) h = absurd (omega (arith, zero-side (down e), ltb-true (m * up e * 1) (0 * 1 * down e) h))

pub phase-below : (x : Float) → lt x zero64 ≡ true → phase_word_of x ≡ 0
unfolding phase_word_of
phase-below x h =
    let y = mul binary64 x two32 in
    ap (λ (z : ℕ). min z 4294967295) (nat-minus floor_at (div binary64 y clock) (div-minus y (mul-minus x (below-minus x h))))

-- ---- from the clock on, an infinity included: each operation rises
rising : (g : Float → Float) (a : Float) → T (positive a) → T (le (g a) (g (inf false)))
    → ((m : ℕ) (e : ℤ) → T (le a (fin false m e)) → T (le (g a) (g (fin false m e)))) → (x : Float) → T (le a x) → T (le (g a) (g x))
rising g a p i f x h = go x (above_of_le a x p h) h
  where
    go : (x : Float) → T (above x) → T (le a x) → T (le (g a) (g x))
    go nan t h = absurd t
    go (inf true) t h = absurd t
    go (inf false) t h = i
    go (fin true m e) t h = absurd t
    go (fin false m e) t h = f m e h

mul-large : (x : Float) → T (le clock x) → T (le (mul binary64 clock two32) (mul binary64 x two32))
unfolding mul le
mul-large = rising (λ x. mul binary64 x two32) clock tt tt (λ m e h. mul-rising clock (fin false m e) two32 refl refl h refl)

div-large : (y : Float) → T (le (mul binary64 clock two32) y) → T (le (div binary64 (mul binary64 clock two32) clock) (div binary64 y clock))
unfolding mul div le
div-large = rising (λ y. div binary64 y clock) (mul binary64 clock two32) tt tt (λ m e h. div-rising (mul binary64 clock two32) (fin false m e) clock refl refl h tt)

pub phase-from-clock : (x : Float) → T (le clock x) → phase_word_of x ≡ 4294967295
unfolding phase_word_of
phase-from-clock x h = top (floor_of (div binary64 (mul binary64 x two32) clock)) most
  where
    at-clock : floor_of (div binary64 (mul binary64 clock two32) clock) ≡ 4294967296
    at-clock = unfold nat_of mul div in refl

    most : 4294967296 ≤ floor_of (div binary64 (mul binary64 x two32) clock)
    most = subst (λ (z : ℕ). z ≤ floor_of (div binary64 (mul binary64 x two32) clock)) at-clock
        (nat-rising floor_at floor-zero floor-rising (div binary64 (mul binary64 clock two32) clock) (div binary64 (mul binary64 x two32) clock) (div-large (mul binary64 x two32) (mul-large x h)))

    top : (v : ℕ) → 4294967296 ≤ v → min v 4294967295 ≡ 4294967295
    top v h = omega arith
