-- Whole parts of values: a cast, exact fractions, and a rounded quotient that keeps its whole part. Assumes nothing.
use Rattle.std.proofs.Common.{◌≡◌, ℕ, suc, ◌+◌, ◌-◌, ◌*◌, ◌/◌, ◌%◌, ◌^◌, ◌<◌, ◌≤◌, min, Bool, true, false, T, sym, refl, ap, ◌∙◌, subst, true≢false, le_trans, le_of_eq, lt_of_lt_of_le, le_of_suc-le-suc, lt_of_le_of_lt, mul-le-mul_right, mod-lt, zero-lt-suc, mul_assoc, suc-mul, mul_comm, div-lt_iff_lt-mul, add-mul, le_antisymm, lt_of_mul-lt-mul_right, mul-lt-mul_of_pos_right, one-mul, div-add-mod', le-div_iff_mul-le, mul-one, mul-add, sub-add_cancel, mul_right_comm, div-mul-le_self, arith, pow_pos, pow_mono, pow-add, shl_lt}
use native.Mathlib.Nat.{mul-sub}
use lib.Ieee.{Float, nan, inf, fin, Format, binary64, prec, emax, low, up, down, round, to_unsigned}
use lib.Ieee.Fits.{down_pos, reach}
use lib.Ieee.Exact.{HasValue, round_exact}
use lib.Ieee.Back.{round_whole}
use lib.Ieee.Nearest.{div_same}
use lib.Ieee.Order.{round_mono}
use Rattle.double.specs.Whole.{nat_of, floor_of}
use lib.Ieee.Positive.{num, den, positive, den_pos, own_value, positive_of_value, values_of_le, between}

-- ---- the cut of a value
pub cut-of-value : (w : ℕ) (x : Float) (a c : ℕ) → 0 < c → HasValue x false a c → to_unsigned w x ≡ min (a / c) (2 ^ w - 1)
unfolding to_unsigned
cut-of-value w nan a c C h = absurd h
cut-of-value w (inf s) a c C h = absurd h
cut-of-value w (fin true m e) a c C h = absurd (true≢false h.0)
cut-of-value w (fin false m e) a c C h = ap (λ (z : ℕ). min z (2 ^ w - 1)) (div_same (m * up e) (down e) a c (down_pos e) C h.1)

-- ---- a fraction with at most the format's digits, j of them after the point, is a value of the format
pub exact-fraction : (f : Format) (s : Bool) (q j : ℕ) → q < 2 ^ prec f → j ≤ low f → HasValue (round f s q (2 ^ j)) s q (2 ^ j)
exact-fraction f s q j Q J =
    let k = low f - j in
    round_exact f s q (2 ^ j) q k (pow_pos j) Q
    (lt_of_lt_of_le (shl_lt (prec f) k Q) (pow_mono (room (prec f) (emax f) (low f) j (reach f))))
    (ap (λ (z : ℕ). q * 2 ^ z) (sym (sub-add_cancel J)) ∙ ap (λ (z : ℕ). q * z) (pow-add 2 k j) ∙ sym (mul_assoc q (2 ^ k) (2 ^ j)))
  where
    room : (p e l j : ℕ) → p ≤ suc e → p + (l - j) ≤ l + suc e
    room p e l j h = omega arith

-- ---- a rounded fraction keeps its whole part, where the doubles there are fine enough

-- a * p ≤ ((N + 1) * p - 1) * c for the whole part N of a / c, a number p of places no less than c
below_next : (a c p : ℕ) → 0 < c → c ≤ p → a * p ≤ ((a / c + 1) * p - 1) * c
below_next a c p C h =
    let n = a / c in
    let r = a % c in
    let e : n * c + r ≡ a = div-add-mod' a c in
    let l : suc r ≤ c = mod-lt a C in
    let rp : suc r * p ≤ c * p = mul-le-mul_right p l in
    let rs : suc r * p ≡ r * p + p = suc-mul r p in
    let ep : a * p ≡ n * c * p + r * p = ap (λ (z : ℕ). z * p) (sym e) ∙ add-mul (n * c) r p in
    let g : ((n + 1) * p - 1) * c ≡ c * ((n + 1) * p) - c = mul_comm ((n + 1) * p - 1) c ∙ mul-sub c ((n + 1) * p) 1 ∙ ap (λ (z : ℕ). c * ((n + 1) * p) - z) (mul-one c) in
    let k : c * ((n + 1) * p) ≡ n * c * p + c * p = ap (λ (z : ℕ). c * z) (add-mul n 1 p ∙ ap (λ (z : ℕ). n * p + z) (one-mul p)) ∙ mul-add c (n * p) p ∙ ap (λ (z : ℕ). z + c * p) (sym (mul_assoc c n p) ∙ ap (λ (z : ℕ). z * p) (mul_comm c n)) in
    subst (λ (z : ℕ). a * p ≤ z) (sym (g ∙ ap (λ (z : ℕ). z - c) k)) (subst (λ (z : ℕ). z ≤ n * c * p + c * p - c) (sym ep) (fin-step (n * c * p) (r * p) (c * p) p c rp rs h))
  where
    fin-step : (x y z p c : ℕ) {s : ℕ} → s ≤ z → s ≡ y + p → c ≤ p → x + y ≤ x + z - c
    fin-step x y z p c a b h = omega arith

pub floor-round : (w a c j : ℕ) → 0 < c → c ≤ 2 ^ j → j ≤ 1074 → 0 < a / c → (a / c + 1) * 2 ^ j ≤ 2 ^ 53 → to_unsigned w (round binary64 false a c) ≡ min (a / c) (2 ^ w - 1)
floor-round w a c j C P J N B =
    let n = a / c in
    let p = 2 ^ j in
    let z = round binary64 false a c in
    let lo = round binary64 false n 1 in
    let q = (n + 1) * p - 1 in
    let hi = round binary64 false q p in
    let PP : 0 < p = pow_pos j in
    let M : n + 1 ≤ (n + 1) * p = le_trans (le_of_eq (sym (mul-one (n + 1)))) (native.Mathlib.Nat.mul-le-mul_left (n + 1) PP) in
    let vlo : HasValue lo false n 1 = round_whole binary64 false n (small n ((n + 1) * p) (2 ^ 53) M B) in
    let vhi : HasValue hi false q p = exact-fraction binary64 false q j (cut ((n + 1) * p) (2 ^ 53) n B M) J in
    let plo : T (positive lo) = positive_of_value lo n 1 vlo N in
    let phi : T (positive hi) = positive_of_value hi q p vhi (above n ((n + 1) * p) N M) in
    let l1 = round_mono binary64 n 1 a c (zero-lt-suc 0) C (le_trans (div-mul-le_self a c) (le_of_eq (sym (mul-one a)))) in
    let l2 = round_mono binary64 a c q p C PP (below_next a c p C P) in
    let pz : T (positive z) = between lo z hi plo phi l1 l2 in
    let vz : HasValue z false (num z) (den z) = own_value z pz in
    let f1 : n * den z ≤ num z * 1 = values_of_le lo z n 1 (num z) (den z) plo pz vlo vz l1 in
    let f2 : num z * p ≤ q * den z = values_of_le z hi (num z) (den z) q p pz phi vz vhi l2 in
    let f3 : num z < (n + 1) * den z = strict (num z) (den z) p (n + 1) n PP (den_pos z) M f2 in
    let whole : num z / den z ≡ n =
    le_antisymm
    (le_of_suc-le-suc (le_trans ((div-lt_iff_lt-mul (den_pos z)).1 f3) (le_of_eq (native.Mathlib.Numerals.add-one n))))
    ((le-div_iff_mul-le (den_pos z)).1 (le_trans f1 (le_of_eq (mul-one (num z))))) in
    cut-of-value w z (num z) (den z) (den_pos z) vz ∙ ap (λ (y : ℕ). min y (2 ^ w - 1)) whole
  where
    small : (n m t : ℕ) → n + 1 ≤ m → m ≤ t → n ≤ t
    small n m t a b = omega arith

    cut : (m t n : ℕ) → m ≤ t → n + 1 ≤ m → m - 1 < t
    cut m t n a b = omega arith

    above : (n m : ℕ) → 0 < n → n + 1 ≤ m → 0 < m - 1
    above n m a b = omega arith

    strict : (x d p k n : ℕ) → 0 < p → 0 < d → n + 1 ≤ k * p → x * p ≤ (k * p - 1) * d → x < k * d
    strict x d p k n P D M h =
        lt_of_mul-lt-mul_right p
        (lt_of_le_of_lt h (lt_of_lt_of_le (mul-lt-mul_of_pos_right (less (k * p) n M) D) (le_of_eq (mul_right_comm k p d))))
      where
        less : (m n : ℕ) → n + 1 ≤ m → m - 1 < m
        less m n h = omega arith

-- ---- Rust's `as`: `x as u64` is the floor, and `x as u32` is cut from it
pub cast-is-floor : (x : Float) → to_unsigned 64 x ≡ floor_of x
unfolding to_unsigned nat_of
cast-is-floor nan = refl
cast-is-floor (inf s) = refl
cast-is-floor (fin s m e) = refl

pub cast-narrow : (x : Float) → to_unsigned 32 x ≡ min (to_unsigned 64 x) 4294967295
unfolding to_unsigned
cast-narrow nan = refl
cast-narrow (inf true) = refl
cast-narrow (inf false) = refl
cast-narrow (fin true m e) = refl
cast-narrow (fin false m e) = both (m * up e / down e)
  where
    both : (a : ℕ) → min a 4294967295 ≡ min (min a 18446744073709551615) 4294967295
    both a = omega arith
