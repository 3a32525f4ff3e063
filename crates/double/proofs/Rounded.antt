-- Rust's `x.round()`, a double again: a whole double is its own, and from 2 ^ 52 on each is whole. Assumes nothing.
use Rattle.std.proofs.Common.{◌≡◌, ℕ, zero, suc, ◌+◌, ◌*◌, ◌/◌, ◌%◌, ◌^◌, ◌<◌, ◌≤◌, min, Bool, true, false, T, ltb, leb, ℤ, pos, negsuc, sym, refl, ap, ◌∙◌, subst, true≢false, le_trans, add-zero, le_of_lt, zero-lt-suc, mul_assoc, div-lt_iff_lt-mul, mul-le-mul_left, mul-pos, div-add-mod', zero-mul, mul-one, not-le_of_lt, arith, lit≤, pow_pos, pow_mono, pow-add, shl_lt, ltb-false, ltb-true, le-ltb, eq-eqb, eqb-true, leb-false, leb-true}
use Prim.Native.Nat.{compare, Ordering}
use native.Mathlib.Nat.{zero-mod, mod-one}
use lib.Pow.{pow-lt}
use lib.Ieee.{Float, nan, inf, fin, Format, binary64, prec, emax, low, up, down, round, fits, lt, neg, of_int}
use lib.Ieee.Fits.{up_pos, down_pos, round-fits}
use lib.Ieee.Exact.{HasValue, round_exact}
use lib.Ieee.Back.{round_whole}
use lib.Ieee.Scale.{round_same, finite}
use Rattle.double.specs.Whole.{most, nat_of, round_at, round_of, away, rounded, is_whole}
use Rattle.double.proofs.Orders.{away-lt}
use Rattle.double.proofs.Zeros.{factor-zero, zero-side}
use Rattle.double.proofs.Floors.{exact-fraction}
use Rattle.double.proofs.Fractions.{round-le}
use Rattle.double.proofs.Wholes.{below-zero}
use Rattle.double.proofs.Signs.{neg-round}
use Rattle.double.proofs.Unique.{unique, kept}

-- ---- a value that fits is what its own fraction rounds to
exponent-le : (i j : ℕ) → 2 ^ i ≤ 2 ^ j → i ≤ j
exponent-le i j h = go (leb i j) refl
  where
    go : (b : Bool) → leb i j ≡ b → i ≤ j
    go true e = leb-true i j e
    go false e = absurd (not-le_of_lt (pow-lt (leb-false i j e)) h)

module _ (f : Format) (s : Bool) (m : ℕ) where
  pub up-value : (k : ℕ) → m < 2 ^ prec f → m * 2 ^ k < 2 ^ suc (emax f) → HasValue (round f s (m * 2 ^ k) 1) s (m * 2 ^ k) 1
  up-value k P B =
      round_exact f s (m * 2 ^ k) 1 m (k + low f) (zero-lt-suc 0) P
      (subst (λ (z : ℕ). z < 2 ^ (low f + suc (emax f))) (mul_assoc m (2 ^ k) (2 ^ low f) ∙ ap (λ (z : ℕ). m * z) (sym (pow-add 2 k (low f))))
      (subst (λ (z : ℕ). m * 2 ^ k * 2 ^ low f < 2 ^ z) (native.Mathlib.Nat.add_comm (suc (emax f)) (low f)) (shl_lt (suc (emax f)) (low f) B)))
      (mul_assoc m (2 ^ k) (2 ^ low f) ∙ ap (λ (z : ℕ). m * z) (sym (pow-add 2 k (low f))) ∙ sym (mul-one (m * 2 ^ (k + low f))))

own_value : (f : Format) (s : Bool) (m : ℕ) (e : ℤ) → T (fits f (fin s m e)) → HasValue (round f s (m * up e) (down e)) s (m * up e) (down e)
unfolding fits
own_value f s zero e t =
    round_exact f s (0 * up e) (down e) 0 0 (down_pos e) (pow_pos (prec f)) (pow_pos (low f + suc (emax f)))
    (ap (λ (z : ℕ). z * 2 ^ low f) (zero-mul (up e)) ∙ zero-mul (2 ^ low f) ∙ sym (zero-mul (down e)))
own_value f s (suc m) (pos k) t =
    let q = kept f s m (pos k) t in
    up-value f s (suc m) k q.small (subst (λ (z : ℕ). suc m * 2 ^ k < z) (mul-one (2 ^ suc (emax f))) q.range)
own_value f s (suc m) (negsuc k) t =
    let q = kept f s m (negsuc k) t in
    subst (λ (z : ℕ). HasValue (round f s z (2 ^ suc k)) s z (2 ^ suc k)) (sym (mul-one (suc m))) (exact-fraction f s (suc m) (suc k) q.small (exponent-le (suc k) (low f) q.fine))

pub round-own : (f : Format) (s : Bool) (m : ℕ) (e : ℤ) → T (fits f (fin s m e)) → round f s (m * up e) (down e) ≡ fin s m e
round-own f s m e t =
    unique f (round f s (m * up e) (down e)) (fin s m e) s (m * up e) (down e) (down_pos e) (round-fits f s (m * up e) (down e)) t (own_value f s m e t) (refl, refl)

-- ---- whole doubles
round-at-whole : (a c : ℕ) → 0 < c → a % c ≡ 0 → round_at a c ≡ a / c
round-at-whole a c C z = ap (λ (r : ℕ). away (a / c) (compare (r * 2) c)) z ∙ away-lt (0 * 2) c (a / c) C

pub div-whole : (a c : ℕ) → a % c ≡ 0 → a / c * c ≡ a * 1
div-whole a c z = sym (add-zero (a / c * c)) ∙ ap (λ (r : ℕ). a / c * c + r) (sym z) ∙ div-add-mod' a c ∙ sym (mul-one a)

-- what is not finite, and what is whole
own : (x : Float) → T (fits binary64 x) → (finite x ≡ true → is_whole x ≡ true) → x ≡ rounded x
unfolding is_whole rounded
own nan t w = refl
own (inf s) t w = refl
own (fin s m e) t w =
    let a = m * up e in
    let c = down e in
    let z : a % c ≡ 0 = eqb-true (a % c) 0 (w refl) in
    sym (ap (λ (n : ℕ). round binary64 s n 1) (round-at-whole a c (down_pos e) z)
    ∙ round_same binary64 s (a / c) 1 a c (zero-lt-suc 0) (down_pos e) (div-whole a c z)
    ∙ round-own binary64 s m e t)

whole-zero : (s : Bool) (m : ℕ) (e : ℤ) → m ≡ 0 → is_whole (fin s m e) ≡ true
unfolding is_whole
whole-zero s m e z = eq-eqb (m * up e % down e) 0 (ap (λ (n : ℕ). n * up e % down e) z ∙ ap (λ (n : ℕ). n % down e) (zero-mul (up e)) ∙ zero-mod (down e))

whole-up : (s : Bool) (m k : ℕ) → is_whole (fin s m (pos k)) ≡ true
unfolding is_whole
whole-up s m k = eq-eqb (m * 2 ^ k % 1) 0 (mod-one (m * 2 ^ k))

-- from 2 ^ 52 on there is no room for a fraction
no_fraction : (m k : ℕ) → m < 2 ^ 53 → 2 ^ 52 * 2 ^ suc k ≤ m → ⊥
no_fraction m k M h = not-le_of_lt M (le_trans (mul-le-mul_left (2 ^ 52) (pow_mono {i = 1} {j = suc k} (at_least k))) h)
  where
    at_least : (k : ℕ) → 1 ≤ suc k
    at_least k = omega arith

whole-large : (s : Bool) (m : ℕ) (e : ℤ) → T (fits binary64 (fin s m e)) → 2 ^ 52 * down e ≤ m * up e → is_whole (fin s m e) ≡ true
whole-large s zero e t h = whole-zero s 0 e refl
whole-large s (suc m) (pos k) t h = whole-up s (suc m) k
whole-large s (suc m) (negsuc k) t h = absurd (no_fraction (suc m) k (kept binary64 s m (negsuc k) t).small (subst (λ (z : ℕ). 2 ^ 52 * 2 ^ suc k ≤ z) (mul-one (suc m)) h))

whole-past : (x : Float) → T (fits binary64 x) → lt x (fin false 0 (pos 0)) ≡ false → lt x (fin false 1 (pos 52)) ≡ false → finite x ≡ true → is_whole x ≡ true
unfolding lt
whole-past nan t n h f = absurd (true≢false (sym f))
whole-past (inf s) t n h f = absurd (true≢false (sym f))
whole-past (fin true m e) t n h f = absurd (some (m * up e * 1) (1 * 2 ^ 52 * down e) (mul-pos (zero-lt-suc 4503599627370495) (down_pos e)) (ltb-false 0 (m * up e * 1 + 1 * 2 ^ 52 * down e) h))
  where
    some : (a b : ℕ) → 0 < b → a + b ≤ 0 → ⊥
    some a b h k = omega arith
whole-past (fin false m e) t n h f = whole-large false m e t (subst (λ (z : ℕ). 2 ^ 52 * down e ≤ z) (mul-one (m * up e)) (ltb-false (m * up e * 1) (1 * 2 ^ 52 * down e) h))

whole-neither : (x : Float) → lt x (fin false 0 (pos 0)) ≡ false → lt (fin false 0 (pos 0)) x ≡ false → finite x ≡ true → is_whole x ≡ true
unfolding lt
whole-neither nan n h f = absurd (true≢false (sym f))
whole-neither (inf s) n h f = absurd (true≢false (sym f))
whole-neither (fin true m e) n h f = whole-zero true m e (factor-zero m (up e) (up_pos e) (none (m * up e) (0 * 1 * down e) (ltb-false 0 (m * up e * 1 + 0 * 1 * down e) n)))
  where
    none : (a b : ℕ) → a * 1 + b ≤ 0 → a ≡ 0
    none a b h = omega arith
whole-neither (fin false m e) n h f = whole-zero false m e (below-zero m e h)

-- ---- nothing is rounded twice: the double is the whole number that is nearest, half away from zero
pub rounded-exact : (s : Bool) (m : ℕ) (e : ℤ) → T (fits binary64 (fin s m e)) → HasValue (rounded (fin s m e)) s (round_at (m * up e) (down e)) 1
unfolding rounded is_whole
rounded-exact s m e t = go (ltb (m * up e) (2 ^ 52 * down e)) refl
  where
    go : (b : Bool) → ltb (m * up e) (2 ^ 52 * down e) ≡ b → HasValue (round binary64 s (round_at (m * up e) (down e)) 1) s (round_at (m * up e) (down e)) 1
    go true l = round_whole binary64 s (round_at (m * up e) (down e)) (le_trans (round-le (m * up e) (down e) (2 ^ 52) (down_pos e) (le_of_lt (ltb-true (m * up e) (2 ^ 52 * down e) l))) (lit≤ tt))
    go false l =
        let w = whole-large s m e t (ltb-false (m * up e) (2 ^ 52 * down e) l) in
        let z : m * up e % down e ≡ 0 = eqb-true (m * up e % down e) 0 w in
        subst (λ (x : Float). HasValue x s (round_at (m * up e) (down e)) 1) (own (fin s m e) t (λ f. w))
        (refl, sym (ap (λ (n : ℕ). n * down e) (round-at-whole (m * up e) (down e) (down_pos e) z) ∙ div-whole (m * up e) (down e) z))

-- ---- `round`, by the tests that it makes
pub past-own : (x : Float) → T (fits binary64 x) → lt x (fin false 0 (pos 0)) ≡ false → lt x (fin false 1 (pos 52)) ≡ false → x ≡ rounded x
past-own x t n h = own x t (whole-past x t n h)

pub none-own : (x : Float) → T (fits binary64 x) → lt x (fin false 0 (pos 0)) ≡ false → lt (fin false 0 (pos 0)) x ≡ false → x ≡ rounded x
none-own x t n h = own x t (whole-neither x n h)

pub under-own : (x : Float) → lt (fin false 0 (pos 0)) x ≡ true → lt x (fin false 1 (pos 52)) ≡ true → of_int binary64 (pos (round_of x)) ≡ rounded x
unfolding lt of_int nat_of rounded
under-own nan p h = absurd (true≢false (sym p))
under-own (inf true) p h = absurd (true≢false (sym p))
under-own (inf false) p h = absurd (true≢false (sym h))
under-own (fin true m e) p h = absurd (true≢false (sym p))
under-own (fin false m e) p h = ap (λ (n : ℕ). round binary64 false n 1) (few (m * up e / down e) (compare (m * up e % down e * 2) (down e)) less)
  where
    less : m * up e / down e < 2 ^ 52
    less = (div-lt_iff_lt-mul (down_pos e)).1 (subst (λ (z : ℕ). z < 2 ^ 52 * down e) (mul-one (m * up e)) (ltb-true (m * up e * 1) (1 * 2 ^ 52 * down e) h))

    few : (q : ℕ) (o : Ordering) → q < 4503599627370496 → min (away q o) most ≡ away q o
    few q Ordering.lt l = omega arith
    few q Ordering.eq l = omega arith
    few q Ordering.gt l = omega arith

pub neg-own : (x : Float) → neg (rounded (neg x)) ≡ rounded x
unfolding rounded neg
neg-own nan = refl
neg-own (inf true) = refl
neg-own (inf false) = refl
neg-own (fin true m e) = neg-round binary64 false (round_at (m * up e) (down e)) 1
neg-own (fin false m e) = neg-round binary64 true (round_at (m * up e) (down e)) 1

pub neg-up : (x : Float) → lt x (fin false 0 (pos 0)) ≡ true → lt (neg x) (fin false 0 (pos 0)) ≡ false
unfolding lt neg
neg-up nan h = absurd (true≢false (sym h))
neg-up (inf true) h = refl
neg-up (inf false) h = absurd (true≢false (sym h))
neg-up (fin true m e) h = le-ltb (m * up e * 1) (0 * 1 * down e) (omega (arith, zero-side (down e)))
neg-up (fin false m e) h = absurd (omega (arith, zero-side (down e), ltb-true (m * up e * 1) (0 * 1 * down e) h))
