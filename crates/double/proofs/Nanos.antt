-- Seconds to nanoseconds, a tie to the even one. Assumes nothing.
use Rattle.std.proofs.Common.{◌≡◌, ℕ, zero, suc, ◌+◌, ◌-◌, ◌*◌, ◌/◌, ◌%◌, ◌^◌, ◌<◌, ◌≤◌, min, Bool, sym, ap, ◌∙◌, subst, le_trans, le_of_eq, lt_of_lt_of_le, add-zero, mul-le-mul_right, mod-lt, mod-eq_of_lt, zero-lt-suc, mul_assoc, mul_comm, div-lt_iff_lt-mul, add_comm, mul-le-mul_left, mul-lt-mul_of_pos_right, mul-pos, one-mul, div-add-mod', le-div_iff_mul-le, zero-mul, mul_right_comm, mul-div_cancel, arith, lit<, lit≤, pow_pos, pow_mono, pow-add, shl_lt, shl_exact}
use Prim.Native.Nat.{compare}
use native.Mathlib.Nat.{div-eq_of_lt, div-div-eq-div-mul, mul-mod_left, add-mul-div_right, mul-add-mod_self_right}
use lib.Arith.{mod-mul, digits_div, digits_mod}
use lib.Ieee.{Float, nearest}
use lib.Ieee.Nearest.{closest, closest_same, nearest-ge}
use lib.Ieee.Positive.{num, den, den_pos}
use Rattle.double.specs.Whole.{most}
use Rattle.double.specs.Seconds.{nanos_at}
use Rattle.double.specs.Parts.{PartsOf, to_even, nanos_by}
use Rattle.double.proofs.Orders.{near-lt, near-gt, near-eq}
use Rattle.double.proofs.Splits.{half-same, cross-of}

-- ---- `to_even`
stays : (q v : ℕ) → q < 18446744073709551616 → v ≡ q → q ≡ min v most
stays q v a b = omega arith

steps : (q v : ℕ) → v ≡ suc q → min (q + 1) most ≡ min v most
steps q v b = omega arith

module _ (q t u s : ℕ) (S : s < 67108864) (U : u % 2 ≡ 0) where
  pub even-low : q < 18446744073709551616 → t * 2 < u → q ≡ to_even q t u s
  unfolding to_even
  even-low Q h = stays q _ Q (near-lt ((t * 67108864 + s) * 2) (u * 67108864) q (omega arith))

  pub even-high : u < t * 2 → min (q + 1) most ≡ to_even q t u s
  unfolding to_even
  even-high h = steps q _ (near-gt ((t * 67108864 + s) * 2) (u * 67108864) q (omega arith))

  pub even-more : u ≤ t * 2 → 0 < s → min (q + 1) most ≡ to_even q t u s
  unfolding to_even
  even-more h k = steps q _ (near-gt ((t * 67108864 + s) * 2) (u * 67108864) q (omega arith))

  pub even-tie : q < 18446744073709551616 → u ≤ t * 2 → t * 2 ≤ u → s ≤ 0 → q % 2 ≡ 0 → q ≡ to_even q t u s
  unfolding to_even
  even-tie Q h k z e = stays q _ Q (near-eq ((t * 67108864 + s) * 2) (u * 67108864) q (omega arith) ∙ omega arith)

  pub odd-tie : u ≤ t * 2 → t * 2 ≤ u → s ≤ 0 → (q % 2 ≡ 0 → ⊥) → min (q + 1) most ≡ to_even q t u s
  unfolding to_even
  odd-tie h k z e = steps q _ (near-eq ((t * 67108864 + s) * 2) (u * 67108864) q (omega arith) ∙ omega arith)

-- ---- `nanos_of`
abbrev giga : ℕ
giga = 1000000000

shrink : (d k : ℕ) → k < 1074 → closest (d * 2 ^ k * giga) (2 ^ 1074) ≡ closest (d * giga) (2 ^ (1074 - k))
shrink d k K =
    closest_same (d * 2 ^ k * giga) (2 ^ 1074) (d * giga) (2 ^ (1074 - k)) (pow_pos 1074) (pow_pos (1074 - k))
    (ap (λ (z : ℕ). z * 2 ^ (1074 - k)) (mul_right_comm d (2 ^ k) giga) ∙ mul_assoc (d * giga) (2 ^ k) (2 ^ (1074 - k))
    ∙ ap (λ (z : ℕ). d * giga * z) (sym (pow-add 2 k (1074 - k)) ∙ ap (λ (z : ℕ). 2 ^ z) (back k K)))
  where
    back : (k : ℕ) → k < 1074 → k + (1074 - k) ≡ 1074
    back k h = omega arith

pub nanos-tiny : (d k : ℕ) → d < 2 ^ 53 → k < 990 → 0 ≡ nanos_by d k
unfolding nanos_by
nanos-tiny d k D K =
    let a = d * 2 ^ k * giga in
    let A : a < 2 ^ 1072 = lt_of_lt_of_le (mul-lt-mul_of_pos_right (lt_of_lt_of_le (shl_lt 53 k D) (pow_mono (room k K))) (zero-lt-suc 999999999)) (lit≤ {m = 2 ^ 1042 * giga} {n = 2 ^ 1072} tt) in
    let B : a < 2 ^ 1074 = lt_of_lt_of_le A (pow_mono {i = 1072} {j = 1074} (lit≤ tt)) in
    let C : a * 2 < 2 ^ 1074 = lt_of_lt_of_le (mul-lt-mul_of_pos_right A (zero-lt-suc 1)) (lit≤ {m = 2 ^ 1072 * 2} {n = 2 ^ 1074} tt) in
    sym (ap (λ (z : ℕ). min z most)
    (ap (λ (z : ℕ). nearest z (compare (a % 2 ^ 1074 * 2) (2 ^ 1074))) (div-eq_of_lt B)
    ∙ ap (λ (z : ℕ). nearest 0 (compare (z * 2) (2 ^ 1074))) (mod-eq_of_lt B)
    ∙ near-lt (a * 2) (2 ^ 1074) 0 C))
  where
    room : (k : ℕ) → k < 990 → 53 + k ≤ 1042
    room k h = omega arith

pub nanos-over : (d k : ℕ) → 2 ^ 52 ≤ d → 1074 ≤ k → 18446744073709551615 ≡ nanos_by d k
unfolding nanos_by
nanos-over d k D K =
    let a = d * 2 ^ k * giga in
    let A : 18446744073709551615 * 2 ^ 1074 ≤ a =
    le_trans (lit≤ {m = 18446744073709551615 * 2 ^ 1074} {n = 2 ^ 52 * 2 ^ 1074 * giga} tt)
    (mul-le-mul_right giga (le_trans (mul-le-mul_right (2 ^ 1074) D) (mul-le-mul_left d (pow_mono K)))) in
    top (closest a (2 ^ 1074)) (le_trans ((le-div_iff_mul-le (pow_pos 1074)).1 A) (nearest-ge (a / 2 ^ 1074) (compare (a % 2 ^ 1074 * 2) (2 ^ 1074))))
  where
    top : (v : ℕ) → 18446744073709551615 ≤ v → 18446744073709551615 ≡ min v 18446744073709551615
    top v h = omega arith

-- d * 10 ^ 9 in two parts
pub two-parts : (d : ℕ) → let a = d % 67108864 * 1000000000 in (d / 67108864 * 1000000000 + a / 67108864) * 67108864 + a % 67108864 ≡ d * 1000000000
two-parts d =
    let m = d % 67108864 in
    let h = d / 67108864 in
    let a = m * 1000000000 in
    join h (a / 67108864) (a % 67108864) a (div-add-mod' a 67108864) ∙ whole h m ∙ ap (λ (z : ℕ). z * 1000000000) (div-add-mod' d 67108864)
  where
    join : (h x y a : ℕ) → x * 67108864 + y ≡ a → (h * 1000000000 + x) * 67108864 + y ≡ h * 67108864 * 1000000000 + a
    join h x y a e = omega arith

    whole : (h m : ℕ) → h * 67108864 * 1000000000 + m * 1000000000 ≡ (h * 67108864 + m) * 1000000000
    whole h m = omega arith

module _ (d k b r : ℕ) (R : r < 67108864) (N : b * 67108864 + r ≡ d * 1000000000) where
  -- more places than r has
  pub nanos-fine : (u : ℕ) → k < 1048 → u ≡ 2 ^ (1048 - k) → to_even (b / u) (b % u) u r ≡ nanos_by d k
  unfolding to_even nanos_by
  nanos-fine u K e =
      let n = d * 1000000000 in
      let U : 0 < u = subst (λ (z : ℕ). 0 < z) (sym e) (pow_pos (1048 - k)) in
      let P : 2 ^ (1074 - k) ≡ u * 67108864 = ap (λ (z : ℕ). 2 ^ z) (more k K) ∙ pow-add 2 (1048 - k) 26 ∙ ap (λ (z : ℕ). z * 67108864) (sym e) in
      let Q : n / 67108864 ≡ b = ap (λ (z : ℕ). z / 67108864) (sym N) ∙ digits_div b R in
      let M : n % 67108864 ≡ r = ap (λ (z : ℕ). z % 67108864) (sym N) ∙ digits_mod b R in
      let D : n / (u * 67108864) ≡ b / u = ap (λ (z : ℕ). n / z) (mul_comm u 67108864) ∙ sym (div-div-eq-div-mul n 67108864 u) ∙ ap (λ (z : ℕ). z / u) Q in
      let E : n % (u * 67108864) ≡ b % u * 67108864 + r = mod-mul n {m = u} {c = 67108864} U (zero-lt-suc 67108863) ∙ ap (λ (z : ℕ). z % u * 67108864 + n % 67108864) Q ∙ ap (λ (z : ℕ). b % u * 67108864 + z) M in
      sym (ap (λ (z : ℕ). min z most)
      (shrink d k (early k K) ∙ ap (closest n) P
      ∙ ap (λ (z : ℕ). nearest z (compare (n % (u * 67108864) * 2) (u * 67108864))) D
      ∙ ap (λ (z : ℕ). nearest (b / u) (compare (z * 2) (u * 67108864))) E))
    where
      more : (k : ℕ) → k < 1048 → 1074 - k ≡ 1048 - k + 26
      more k h = omega arith

      early : (k : ℕ) → k < 1048 → k < 1074
      early k h = omega arith

  module _ (u w : ℕ) (K : k < 1074) (e : u ≡ 2 ^ (1074 - k)) (UW : w * u ≡ 67108864) where
    coarse-n : d * 1000000000 ≡ r + b * w * u
    coarse-n = sym N ∙ add_comm (b * 67108864) r ∙ ap (λ (z : ℕ). r + z) (ap (λ (z : ℕ). b * z) (sym UW) ∙ sym (mul_assoc b w u))

    u-pos : 0 < u
    u-pos = subst (λ (z : ℕ). 0 < z) (sym e) (pow_pos (1074 - k))

    coarse-div : d * 1000000000 / u ≡ b * w + r / u
    coarse-div = ap (λ (z : ℕ). z / u) coarse-n ∙ add-mul-div_right r (b * w) u-pos ∙ add_comm (r / u) (b * w)

    coarse-mod : d * 1000000000 % u ≡ r % u
    coarse-mod = ap (λ (z : ℕ). z % u) (coarse-n ∙ add_comm r (b * w * u)) ∙ mul-add-mod_self_right (b * w) u r

    pub nanos-coarse : to_even (b * w + r / u) (r % u) u 0 ≡ nanos_by d k
    unfolding to_even nanos_by
    nanos-coarse =
        let n = d * 1000000000 in
        let x = r % u in
        let H : compare ((x * 67108864 + 0) * 2) (u * 67108864) ≡ compare (x * 2) u =
        half-same (x * 67108864 + 0) (u * 67108864) x u (mul-pos u-pos (zero-lt-suc 67108863)) u-pos
        (ap (λ (z : ℕ). z * u) (add-zero (x * 67108864)) ∙ mul_right_comm x 67108864 u ∙ mul_assoc x u 67108864) in
        sym (ap (λ (z : ℕ). min z most)
        (shrink d k K ∙ ap (closest n) (sym e)
        ∙ ap (λ (z : ℕ). nearest z (compare (n % u * 2) u)) coarse-div
        ∙ ap (λ (z : ℕ). nearest (b * w + r / u) (compare (z * 2) u)) coarse-mod
        ∙ ap (nearest (b * w + r / u)) (sym H)))

    pub nanos-past : u ≤ b / 274877906944 → 18446744073709551615 ≡ nanos_by d k
    unfolding nanos_by
    nanos-past h =
        let n = d * 1000000000 in
        let c : u * 274877906944 ≤ b = (le-div_iff_mul-le (zero-lt-suc 274877906943)).0 h in
        let l : 18446744073709551616 ≤ b * w = le_trans (le_of_eq (sym (ap (λ (z : ℕ). z * 274877906944) (mul_comm u w ∙ UW)) ∙ mul_right_comm u w 274877906944)) (mul-le-mul_right w c) in
        top (b * w) (r / u) (closest n u) l (le_trans (le_of_eq (sym coarse-div)) (nearest-ge (n / u) (compare (n % u * 2) u))) ∙ ap (λ (z : ℕ). min z most) (sym (shrink d k K ∙ ap (closest n) (sym e)))
      where
        top : (x y v : ℕ) → 18446744073709551616 ≤ x → x + y ≤ v → 18446744073709551615 ≡ min v 18446744073709551615
        top x y v a h = omega arith

    -- what the code's product and sum ask
    pub coarse-mul : b / 274877906944 < u → b * w + w ≤ 18446744073709551616
    coarse-mul h =
        let c : suc b ≤ u * 274877906944 = (div-lt_iff_lt-mul (zero-lt-suc 274877906943)).0 h in
        le_trans (le_of_eq (sym (native.Mathlib.Nat.suc-mul b w))) (le_trans (mul-le-mul_right w c) (le_of_eq (mul_right_comm u 274877906944 w ∙ ap (λ (z : ℕ). z * 274877906944) (mul_comm u w ∙ UW))))

    pub rest_lt : r / u < w
    rest_lt = (div-lt_iff_lt-mul u-pos).1 (lt_of_lt_of_le R (le_of_eq (sym UW)))

pub even-pow : (j : ℕ) → 0 < j → 2 ^ j % 2 ≡ 0
even-pow zero h = absurd (native.Mathlib.Nat.lt_irrefl 0 h)
even-pow (suc j) h = ap (λ (z : ℕ). z % 2) (native.Mathlib.Nat.pow-suc 2 j) ∙ mul-mod_left (2 ^ j) 2

-- 1 << j
pub one_shl : (j : ℕ) → j < 63 → 1 * 2 ^ j % 18446744073709551616 ≡ 2 ^ j
one_shl j h = shl_exact {a = 1} 1 j 64 (lit< tt) (room j h) ∙ one-mul (2 ^ j)
  where
    room : (j : ℕ) → j < 63 → 1 + j ≤ 64
    room j h = omega arith

pub by_parts : (x : Float) (s : Bool) (d k : ℕ) → PartsOf x s d k → nanos_by d k ≡ min (nanos_at (num x) (den x)) most
unfolding nanos_by
by_parts x s d k p =
    ap (λ (z : ℕ). min z most)
    (closest_same (d * 2 ^ k * giga) (2 ^ 1074) (num x * giga) (den x) (pow_pos 1074) (den_pos x)
    (mul_right_comm (d * 2 ^ k) giga (den x) ∙ ap (λ (z : ℕ). z * giga) (sym (cross-of x s (d * 2 ^ k) (2 ^ 1074) p.value)) ∙ mul_right_comm (num x) (2 ^ 1074) giga))

pub unit-w : (k u : ℕ) → 1048 ≤ k → k < 1074 → u ≡ 2 ^ (1074 - k) → 67108864 / u * u ≡ 67108864
unit-w k u h l e =
    let j = k - 1048 in
    let p : 67108864 ≡ 2 ^ j * u = ap (λ (z : ℕ). 2 ^ z) (whole k h l) ∙ pow-add 2 j (1074 - k) ∙ ap (λ (z : ℕ). 2 ^ j * z) (sym e) in
    ap (λ (z : ℕ). z / u * u) p ∙ ap (λ (z : ℕ). z * u) (mul-div_cancel (2 ^ j) (subst (λ (z : ℕ). 0 < z) (sym e) (pow_pos (1074 - k)))) ∙ sym p
  where
    whole : (k : ℕ) → 1048 ≤ k → k < 1074 → 26 ≡ k - 1048 + (1074 - k)
    whole k a b = omega arith

abbrev pub a_of : ℕ → ℕ
a_of d = d % 67108864 * 1000000000

abbrev pub b_of : ℕ → ℕ
b_of d = d / 67108864 * 1000000000 + a_of d / 67108864

abbrev pub r_of : ℕ → ℕ
r_of d = a_of d % 67108864

pub r_small : (d : ℕ) → r_of d < 67108864
r_small d = mod-lt (a_of d) (zero-lt-suc 67108863)

pub b-small : (d : ℕ) → d < 9007199254740992 → b_of d < 1152921504606846976
b-small d h = two (d / 67108864) (a_of d / 67108864) (one d h) (less (d % 67108864) (mod-lt d (zero-lt-suc 67108863)))
  where
    one : (d : ℕ) → d < 9007199254740992 → d / 67108864 < 134217728
    one d h = omega arith

    less : (m : ℕ) → m < 67108864 → m * 1000000000 / 67108864 < 1000000000
    less m h = omega arith

    two : (x y : ℕ) → x < 134217728 → y < 1000000000 → x * 1000000000 + y < 1152921504606846976
    two x y a b = omega arith

abbrev pub shl1 : ℕ → ℕ
shl1 j = 1 * 2 ^ j % 18446744073709551616

pub shl1-pos : (j : ℕ) → j < 63 → 0 < shl1 j
shl1-pos j h = subst (λ (z : ℕ). 0 < z) (sym (one_shl j h)) (pow_pos j)

pub shl1-even : (j : ℕ) → 0 < j → j < 63 → shl1 j % 2 ≡ 0
shl1-even j p h = ap (λ (z : ℕ). z % 2) (one_shl j h) ∙ even-pow j p

-- ---- as `nanos_of` has them from scale 1048 on: u is 1 << (1074 - k)
module _ (d k : ℕ) (K : k < 1074) (L : 1048 ≤ k) where
  u-is : shl1 (1074 - k) ≡ 2 ^ (1074 - k)
  u-is = one_shl (1074 - k) (omega arith)

  w-is : 67108864 / shl1 (1074 - k) * shl1 (1074 - k) ≡ 67108864
  w-is = unit-w k (shl1 (1074 - k)) L K u-is

  pub past-at : shl1 (1074 - k) ≤ b_of d / 274877906944 → 18446744073709551615 ≡ nanos_by d k
  past-at = nanos-past d k (b_of d) (r_of d) (r_small d) (two-parts d) (shl1 (1074 - k)) (67108864 / shl1 (1074 - k)) K u-is w-is

  pub coarse-at : to_even (b_of d * (67108864 / shl1 (1074 - k)) + r_of d / shl1 (1074 - k)) (r_of d % shl1 (1074 - k)) (shl1 (1074 - k)) 0 ≡ nanos_by d k
  coarse-at = nanos-coarse d k (b_of d) (r_of d) (r_small d) (two-parts d) (shl1 (1074 - k)) (67108864 / shl1 (1074 - k)) K u-is w-is

  pub sum_fits : b_of d / 274877906944 < shl1 (1074 - k) → b_of d * (67108864 / shl1 (1074 - k)) + r_of d / shl1 (1074 - k) < 18446744073709551616
  sum_fits h =
      let u = shl1 (1074 - k) in
      let w = 67108864 / u in
      under (b_of d * w) w (r_of d / u) (coarse-mul d k (b_of d) (r_of d) (r_small d) (two-parts d) u w K u-is w-is h) (rest_lt d k (b_of d) (r_of d) (r_small d) (two-parts d) u w K u-is w-is)
    where
      under : (x w y : ℕ) → x + w ≤ 18446744073709551616 → y < w → x + y < 18446744073709551616
      under x w y a b = omega arith

  pub product-fits : b_of d / 274877906944 < shl1 (1074 - k) → b_of d * (67108864 / shl1 (1074 - k)) < 18446744073709551616
  product-fits h = first (b_of d * (67108864 / shl1 (1074 - k))) (r_of d / shl1 (1074 - k)) (sum_fits h)
    where
      first : (x y : ℕ) → x + y < 18446744073709551616 → x < 18446744073709551616
      first x y h = omega arith

pub nanos-zero : (c : ℕ) → 0 < c → nanos_at 0 c ≡ 0
nanos-zero c C =
    ap (λ (z : ℕ). nearest (z / c) (compare (z % c * 2) c)) (zero-mul 1000000000)
    ∙ ap (λ (z : ℕ). nearest z (compare (0 % c * 2) c)) (native.Mathlib.Nat.zero-div c)
    ∙ ap (λ (z : ℕ). nearest 0 (compare (z * 2) c)) (native.Mathlib.Nat.zero-mod c)
    ∙ near-lt (0 * 2) c 0 C
