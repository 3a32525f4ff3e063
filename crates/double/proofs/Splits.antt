-- A finite double as whole + rest / unit. Assumes nothing.
use Rattle.std.proofs.Common.{◌≡◌, ℕ, ◌+◌, ◌-◌, ◌*◌, ◌/◌, ◌%◌, ◌^◌, ◌<◌, ◌≤◌, min, Bool, true, eqb, leb, sym, ap, ◌∙◌, subst, le_trans, le_of_eq, lt_of_lt_of_le, lt_of_le_of_lt, le_of_lt, mul-le-mul_right, mod-eq_of_lt, zero-lt-suc, mul_assoc, mul_comm, add-mul, mul-lt-mul_of_pos_right, one-mul, div-add-mod', zero-mul, mul-one, sub-add_cancel, mul_right_comm, le_of_mul-le-mul_right, div-one, arith, lit<, lit≤, le→leb, eqb→eq, leb→le, pow_pos, pow_mono, pow-add, shl_lt, shl_exact, ne_eqb}
use Prim.Native.Nat.{Ordering}
use Prim.Native.Nat.{compare}
use native.Mathlib.Nat.{mod-one, eq_of_mul-eq-mul_right, div-eq_of_lt}
use lib.Ieee.{Float, nan, inf, fin}
use lib.Ieee.Fits.{eq→eqb}
use lib.Ieee.Exact.{HasValue}
use lib.Ieee.Nearest.{div_same}
use lib.Ieee.Positive.{num, den, den_pos}
use Rattle.double.specs.Parts.{PartsOf, SplitOf}
use Rattle.double.proofs.Zeros.{factor-zero}
use Rattle.double.proofs.Orders.{bool-ext, order-ext, order_lt}

-- ---- equal fractions a / c and b / d
rest-same : (a c b d : ℕ) → 0 < c → 0 < d → a * d ≡ b * c → a % c * d ≡ b % d * c
rest-same a c b d C D e =
    let w : a / c ≡ b / d = div_same a c b d C D e in
    let x : a / c * c * d + a % c * d ≡ a * d = sym (add-mul (a / c * c) (a % c) d) ∙ ap (λ (z : ℕ). z * d) (div-add-mod' a c) in
    let y : b / d * d * c + b % d * c ≡ b * c = sym (add-mul (b / d * d) (b % d) c) ∙ ap (λ (z : ℕ). z * c) (div-add-mod' b d) in
    let s : a / c * c * d ≡ b / d * d * c = ap (λ (z : ℕ). z * c * d) w ∙ mul_right_comm (b / d) c d in
    cancel (a / c * c * d) (b / d * d * c) (a % c * d) (b % d * c) s (x ∙ e ∙ sym y)
  where
    cancel : (p q r s : ℕ) → p ≡ q → p + r ≡ q + s → r ≡ s
    cancel p q r s a b = omega arith

-- x / c and y / d equal: nothing is x where nothing is y
none-same : (x c y d : ℕ) → 0 < c → 0 < d → x * d ≡ y * c → eqb x 0 ≡ eqb y 0
none-same x c y d C D e =
    bool-ext (eqb x 0) (eqb y 0)
    (λ t. eq→eqb (factor-zero y c C (sym e ∙ ap (λ (z : ℕ). z * d) (eqb→eq x 0 t) ∙ zero-mul d)))
    (λ t. eq→eqb (factor-zero x d D (e ∙ ap (λ (z : ℕ). z * c) (eqb→eq y 0 t) ∙ zero-mul c)))

pub half-same : (x c y d : ℕ) → 0 < c → 0 < d → x * d ≡ y * c → compare (x * 2) c ≡ compare (y * 2) d
half-same x c y d C D e =
    order-ext (compare (x * 2) c) (compare (y * 2) d)
    (bool-ext (leb (x * 2) c) (leb (y * 2) d) (λ t. le→leb (y * 2) d (le x c y d C e (leb→le (x * 2) c t))) (λ t. le→leb (x * 2) c (le y d x c D (sym e) (leb→le (y * 2) d t))))
    (bool-ext (eqb (x * 2) c) (eqb (y * 2) d) (λ t. eq→eqb (eq x c y d C e (eqb→eq (x * 2) c t))) (λ t. eq→eqb (eq y d x c D (sym e) (eqb→eq (y * 2) d t))))
  where
    le : (x c y d : ℕ) → 0 < c → x * d ≡ y * c → x * 2 ≤ c → y * 2 ≤ d
    le x c y d C e h =
        le_of_mul-le-mul_right
        (le_trans (le_of_eq (mul_right_comm y 2 c ∙ ap (λ (z : ℕ). z * 2) (sym e) ∙ mul_right_comm x d 2))
        (le_trans (mul-le-mul_right d h) (le_of_eq (mul_comm c d))))
        C

    eq : (x c y d : ℕ) → 0 < c → x * d ≡ y * c → x * 2 ≡ c → y * 2 ≡ d
    eq x c y d C e h =
        eq_of_mul-eq-mul_right c C (y * 2) d
        (mul_right_comm y 2 c ∙ ap (λ (z : ℕ). z * 2) (sym e) ∙ mul_right_comm x d 2 ∙ ap (λ (z : ℕ). z * d) h ∙ mul_comm c d)

pub record Same (x : Float) (a c : ℕ) : Type 0 where
  pub cut : min (a / c) 18446744073709551615 ≡ min (num x / den x) 18446744073709551615
  pub none : eqb (a % c) 0 ≡ eqb (num x % den x) 0
  pub half : compare (a % c * 2) c ≡ compare (num x % den x * 2) (den x)

pub same_at : (x : Float) (a c : ℕ) → 0 < c → num x * c ≡ a * den x → Same x a c
same_at x a c C e =
    let r = rest-same a c (num x) (den x) C (den_pos x) (sym e) in
    record {
      cut = ap (λ (z : ℕ). min z 18446744073709551615) (div_same a c (num x) (den x) C (den_pos x) (sym e));
      none = none-same (a % c) c (num x % den x) (den x) C (den_pos x) r;
      half = half-same (a % c) c (num x % den x) (den x) C (den_pos x) r;
    }

pub cross-of : (x : Float) (s : Bool) (a c : ℕ) → HasValue x s a c → num x * c ≡ a * den x
cross-of nan s a c h = absurd h
cross-of (inf t) s a c h = absurd h
cross-of (fin t m e) s a c h = h.1

parts-cross : (x : Float) (s : Bool) (d k : ℕ) → PartsOf x s d k → num x * 2 ^ 1074 ≡ d * 2 ^ k * den x
parts-cross x s d k p = cross-of x s (d * 2 ^ k) (2 ^ 1074) p.value

-- ---- the four answers
-- fewer than 1020 digits up: below a quarter
tiny-lt : (d k : ℕ) → d < 2 ^ 53 → k < 1020 → d * 2 ^ k < 2 ^ 1072
tiny-lt d k D K = lt_of_lt_of_le (shl_lt 53 k D) (pow_mono (room k K))
  where
    room : (k : ℕ) → k < 1020 → 53 + k ≤ 1072
    room k h = omega arith

tiny-half : (a : ℕ) → a < 2 ^ 1072 → compare (a * 2) (2 ^ 1074) ≡ Ordering.lt
tiny-half a h = order-ext (compare (a * 2) (2 ^ 1074)) Ordering.lt
    (bool-ext (leb (a * 2) (2 ^ 1074)) true (λ t. tt) (λ t. le→leb (a * 2) (2 ^ 1074) (le_trans (mul-le-mul_right 2 (le_of_lt h)) (lit≤ tt))))
    (ne_eqb (a * 2) (2 ^ 1074) (λ e. native.Mathlib.Nat.lt_irrefl (2 ^ 1074) (subst (λ (z : ℕ). z < 2 ^ 1074) e (lt_of_lt_of_le (mul-lt-mul_of_pos_right h (zero-lt-suc 1)) (lit≤ tt)))))

-- so 0 or a quarter stands for it
pub split-tiny : (x : Float) (s : Bool) (d k r : ℕ) → PartsOf x s d k → k < 1020 → r ≡ min d 1 → SplitOf x 0 r 4
split-tiny x s d k r p K e =
    let a = d * 2 ^ k in
    let A : a < 2 ^ 1072 = tiny-lt d k p.small K in
    let B : a < 2 ^ 1074 = lt_of_lt_of_le A (pow_mono {i = 1072} {j = 1074} (lit≤ tt)) in
    let q = same_at x a (2 ^ 1074) (pow_pos 1074) (parts-cross x s d k p) in
    record {
      cut = sym (ap (λ (z : ℕ). min z 18446744073709551615) (div-eq_of_lt B)) ∙ q.cut;
      none = any ∙ sym (same-zero d k) ∙ sym (ap (λ (z : ℕ). eqb z 0) (mod-eq_of_lt B)) ∙ q.none;
      half = order_lt (r * 2) 4 (omega arith) ∙ sym (tiny-half a A) ∙ sym (ap (λ (z : ℕ). compare (z * 2) (2 ^ 1074)) (mod-eq_of_lt B)) ∙ q.half;
      room = omega arith;
    }
  where
    same-zero : (d k : ℕ) → eqb (d * 2 ^ k) 0 ≡ eqb d 0
    same-zero d k = none-same (d * 2 ^ k) (2 ^ k) d 1 (pow_pos k) (zero-lt-suc 0) (mul-one (d * 2 ^ k))

    any : eqb r 0 ≡ eqb d 0
    any = bool-ext (eqb r 0) (eqb d 0) (λ t. eq→eqb {a = d} {b = 0} (omega (arith, eqb→eq r 0 t))) (λ t. eq→eqb {a = r} {b = 0} (omega (arith, eqb→eq d 0 t)))

pub split-mid : (x : Float) (s : Bool) (d k u : ℕ) → PartsOf x s d k → k < 1074 → u ≡ 2 ^ (1074 - k) → SplitOf x (d / u) (d % u) u
split-mid x s d k u p K e =
    let U : 0 < u = subst (λ (z : ℕ). 0 < z) (sym e) (pow_pos (1074 - k)) in
    let w : u * 2 ^ k ≡ 2 ^ 1074 = ap (λ (z : ℕ). z * 2 ^ k) e ∙ sym (pow-add 2 (1074 - k) k) ∙ ap (λ (z : ℕ). 2 ^ z) (sub-add_cancel (le_of_lt K)) in
    let c : num x * u ≡ d * den x =
    eq_of_mul-eq-mul_right (2 ^ k) (pow_pos k) (num x * u) (d * den x)
    (mul_assoc (num x) u (2 ^ k) ∙ ap (λ (z : ℕ). num x * z) w ∙ parts-cross x s d k p ∙ mul_right_comm d (2 ^ k) (den x)) in
    let q = same_at x d u U c in
    record { cut = sym (small (d / u) d (native.Mathlib.Nat.div-le_self d u) p.small) ∙ q.cut; none = q.none; half = q.half; room = lt_of_le_of_lt (native.Mathlib.Nat.mod-le d u) (lt_of_lt_of_le p.small (lit≤ tt)) }
  where
    small : (v d : ℕ) → v ≤ d → d < 9007199254740992 → min v 18446744073709551615 ≡ v
    small v d a b = omega arith

up_cross : (x : Float) (s : Bool) (d k : ℕ) → PartsOf x s d k → 1074 ≤ k → num x * 1 ≡ d * 2 ^ (k - 1074) * den x
up_cross x s d k p K =
    eq_of_mul-eq-mul_right (2 ^ 1074) (pow_pos 1074) (num x * 1) (d * 2 ^ (k - 1074) * den x)
    (ap (λ (z : ℕ). z * 2 ^ 1074) (mul-one (num x)) ∙ parts-cross x s d k p
    ∙ ap (λ (z : ℕ). d * z * den x) (ap (λ (z : ℕ). 2 ^ z) (sym (sub-add_cancel K)) ∙ pow-add 2 (k - 1074) 1074)
    ∙ ap (λ (z : ℕ). z * den x) (sym (mul_assoc d (2 ^ (k - 1074)) (2 ^ 1074)))
    ∙ mul_right_comm (d * 2 ^ (k - 1074)) (2 ^ 1074) (den x))

split_one : (x : Float) (a w : ℕ) → num x * 1 ≡ a * den x → w ≡ min a 18446744073709551615 → SplitOf x w 0 1
split_one x a w c e =
    let q = same_at x a 1 (zero-lt-suc 0) c in
    record {
      cut = e ∙ ap (λ (z : ℕ). min z 18446744073709551615) (sym (div-one a)) ∙ q.cut;
      none = sym (ap (λ (z : ℕ). eqb z 0) (mod-one a)) ∙ q.none;
      half = sym (ap (λ (z : ℕ). compare (z * 2) 1) (mod-one a)) ∙ q.half;
      room = lit< tt;
    }

pub split-high : (x : Float) (s : Bool) (d k : ℕ) → PartsOf x s d k → 1074 ≤ k → k < 1086 → SplitOf x (d * 2 ^ (k - 1074) % 2 ^ 64) 0 1
split-high x s d k p K L =
    split_one x (d * 2 ^ (k - 1074)) (d * 2 ^ (k - 1074) % 2 ^ 64) (up_cross x s d k p K)
    (shl_exact 53 (k - 1074) 64 p.small (room k L) ∙ sym (whole (d * 2 ^ (k - 1074)) (lt_of_lt_of_le (shl_lt 53 (k - 1074) p.small) (pow_mono (room k L)))))
  where
    room : (k : ℕ) → k < 1086 → 53 + (k - 1074) ≤ 64
    room k h = omega arith

    whole : (a : ℕ) → a < 18446744073709551616 → min a 18446744073709551615 ≡ a
    whole a h = omega arith

pub split-over : (x : Float) (s : Bool) (d k : ℕ) → PartsOf x s d k → 1086 ≤ k → SplitOf x 18446744073709551615 0 1
split-over x s d k p K =
    split_one x (d * 2 ^ (k - 1074)) 18446744073709551615 (up_cross x s d k p (before k K))
    (sym (past (d * 2 ^ (k - 1074)) (le_trans (pow_mono (room k K)) (le_trans (le_of_eq (pow-add 2 52 (k - 1074))) (mul-le-mul_right (2 ^ (k - 1074)) (p.full (some k K)))))))
  where
    before : (k : ℕ) → 1086 ≤ k → 1074 ≤ k
    before k h = omega arith

    some : (k : ℕ) → 1086 ≤ k → 0 < k
    some k h = omega arith

    room : (k : ℕ) → 1086 ≤ k → 64 ≤ 52 + (k - 1074)
    room k h = omega arith

    past : (a : ℕ) → 18446744073709551616 ≤ a → min a 18446744073709551615 ≡ 18446744073709551615
    past a h = omega arith

-- 1 << (1074 - k)
pub unit-is : (k : ℕ) → 1020 ≤ k → k < 1074 → 1 * 2 ^ (1074 - k) % 2 ^ 64 ≡ 2 ^ (1074 - k)
unit-is k h l = shl_exact {a = 1} 1 (1074 - k) 64 (lit< tt) (room k h) ∙ one-mul (2 ^ (1074 - k))
  where
    room : (k : ℕ) → 1020 ≤ k → 1 + (1074 - k) ≤ 64
    room k h = omega arith

pub unit-pos : (k : ℕ) → 1020 ≤ k → k < 1074 → 0 < 1 * 2 ^ (1074 - k) % 2 ^ 64
unit-pos k h l = subst (λ (z : ℕ). 0 < z) (sym (unit-is k h l)) (pow_pos (1074 - k))
