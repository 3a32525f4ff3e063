-- A fraction to a whole number: down, up, half up and to nanoseconds. Each rises with the fraction, and stays under a whole bound. Assumes nothing.
use Rattle.std.proofs.Common.{◌≡◌, ℕ, ◌+◌, ◌-◌, ◌*◌, ◌/◌, ◌%◌, ◌<◌, ◌≤◌, Bool, true, false, cond, eqb, ltb, sym, refl, ap, ◌∙◌, subst, le_trans, le_of_eq, lt_of_lt_of_le, le_of_suc-le-suc, mul-le-mul_right, mod-lt, zero-lt-suc, mul_assoc, suc-mul, mul_comm, div-lt_iff_lt-mul, add-mul, lt_of_mul-lt-mul_right, mul-pos, one-mul, div-add-mod', zero-mul, mul-one, mul_right_comm, le_of_mul-le-mul_right, div-one, arith, ltb-false, ltb-true, eqb-true}
use Prim.Native.Nat.{compare}
use native.Mathlib.Nat.{mul-mul-mul_comm}
use borrow.Author.Tests.{eqb-false}
use lib.Arith.{digits_div}
use lib.Ieee.Nearest.{div_mono, closest_mono}
use Rattle.double.specs.Whole.{floor_at, ceil_at, round_at, away}
use Rattle.double.specs.Seconds.{nanos_at}
use Rattle.double.proofs.Orders.{away-lt, away-ge}

-- g rises: a / c at most b / d gives it at most there
abbrev pub Rising : (ℕ → ℕ → ℕ) → Type 0
Rising g = (a c b d : ℕ) → 0 < c → 0 < d → a * d ≤ b * c → g a c ≤ g b d

pub floor-rising : Rising floor_at
floor-rising = div_mono

-- a at most b * c is a / c at most b
pub floor-le : (a c b : ℕ) → 0 < c → a ≤ b * c → a / c ≤ b
floor-le a c b C h = le_of_suc-le-suc ((div-lt_iff_lt-mul C).1 (lt_of_lt_of_le (more a (b * c) c C h) (le_of_eq (sym (suc-mul b c)))))
  where
    more : (a x c : ℕ) → 0 < c → a ≤ x → a < x + c
    more a x c C h = omega arith

-- ---- up
pub ceil-le : (a c b : ℕ) → 0 < c → a ≤ b * c → ceil_at a c ≤ b
ceil-le a c b C h = go (eqb (a % c) 0) refl
  where
    none : (q b : ℕ) → q ≤ b → q + 0 ≤ b
    none q b h = omega arith

    one : (q b : ℕ) → q < b → q + 1 ≤ b
    one q b h = omega arith

    strict : (x r a y : ℕ) → (r ≡ 0 → ⊥) → x + r ≡ a → a ≤ y → x < y
    strict x r a y n e l = omega arith

    go : (t : Bool) → eqb (a % c) 0 ≡ t → a / c + cond t 0 1 ≤ b
    go true e = none (a / c) b (floor-le a c b C h)
    go false e = one (a / c) b (lt_of_mul-lt-mul_right c (strict (a / c * c) (a % c) a (b * c) (eqb-false (a % c) 0 e) (div-add-mod' a c) h))

pub ceil-ge : (a c : ℕ) → 0 < c → a ≤ ceil_at a c * c
ceil-ge a c C = go (eqb (a % c) 0) refl
  where
    none : (x r a : ℕ) → r ≡ 0 → x + r ≡ a → a ≤ x + 0
    none x r a z e = omega arith

    one : (x r c a : ℕ) → r < c → x + r ≡ a → a ≤ x + c
    one x r c a l e = omega arith

    go : (t : Bool) → eqb (a % c) 0 ≡ t → a ≤ (a / c + cond t 0 1) * c
    go true e = subst (λ (z : ℕ). a ≤ z) (ap (λ (z : ℕ). a / c * c + z) (sym (zero-mul c)) ∙ sym (add-mul (a / c) 0 c)) (none (a / c * c) (a % c) a (eqb-true (a % c) 0 e) (div-add-mod' a c))
    go false e = subst (λ (z : ℕ). a ≤ z) (ap (λ (z : ℕ). a / c * c + z) (sym (one-mul c)) ∙ sym (add-mul (a / c) 1 c)) (one (a / c * c) (a % c) c a (mod-lt a C) (div-add-mod' a c))

pub ceil-rising : Rising ceil_at
ceil-rising a c b d C D h =
    ceil-le a c (ceil_at b d) C
    (le_of_mul-le-mul_right (le_trans h (le_trans (mul-le-mul_right c (ceil-ge b d D)) (le_of_eq (mul_right_comm (ceil_at b d) d c)))) D)

-- ---- half up
pub round-is-floor : (a c : ℕ) → 0 < c → round_at a c ≡ (a * 2 + c) / (c * 2)
round-is-floor a c C = go (ltb (a % c * 2) c) refl
  where
    doubled : (x r a c : ℕ) → x + r ≡ a → x * 2 + (r * 2 + c) ≡ a * 2 + c
    doubled x r a c e = omega arith

    low : (r c : ℕ) → r * 2 < c → r * 2 + c < c * 2
    low r c h = omega arith

    high : (x r c : ℕ) → c ≤ r * 2 → x + c * 2 + (r * 2 - c) ≡ x + (r * 2 + c)
    high x r c h = omega arith

    short : (r c : ℕ) → r < c → r * 2 - c < c * 2
    short r c h = omega arith

    whole : a / c * (c * 2) + (a % c * 2 + c) ≡ a * 2 + c
    whole = ap (λ (z : ℕ). z + (a % c * 2 + c)) (sym (mul_assoc (a / c) c 2)) ∙ doubled (a / c * c) (a % c) a c (div-add-mod' a c)

    go : (t : Bool) → ltb (a % c * 2) c ≡ t → round_at a c ≡ (a * 2 + c) / (c * 2)
    go true e =
        let l = ltb-true (a % c * 2) c e in
        away-lt (a % c * 2) c (a / c) l ∙ sym (ap (λ (z : ℕ). z / (c * 2)) (sym whole) ∙ digits_div (a / c) (low (a % c) c l))
    go false e =
        let l = ltb-false (a % c * 2) c e in
        away-ge (a % c * 2) c (a / c) l
        ∙ sym (ap (λ (z : ℕ). z / (c * 2)) (sym (ap (λ (z : ℕ). z + (a % c * 2 - c)) (add-mul (a / c) 1 (c * 2) ∙ ap (λ (z : ℕ). a / c * (c * 2) + z) (one-mul (c * 2))) ∙ high (a / c * (c * 2)) (a % c) c l ∙ whole))
        ∙ digits_div (a / c + 1) (short (a % c) c (mod-lt a C)))

pub round-rising : Rising round_at
round-rising a c b d C D h =
    le_trans (le_of_eq (round-is-floor a c C))
    (le_trans (div_mono (a * 2 + c) (c * 2) (b * 2 + d) (d * 2) (mul-pos C (zero-lt-suc 1)) (mul-pos D (zero-lt-suc 1)) crossed) (le_of_eq (sym (round-is-floor b d D))))
  where
    spread : (a c d : ℕ) → (a * 2 + c) * (d * 2) ≡ a * d * 4 + c * d * 2
    spread a c d = add-mul (a * 2) c (d * 2) ∙ ap (λ (z : ℕ). z + c * (d * 2)) (mul-mul-mul_comm a 2 d 2) ∙ ap (λ (z : ℕ). a * d * 4 + z) (sym (mul_assoc c d 2))

    fours : (x y z w : ℕ) → x ≤ y → z ≡ w → x * 4 + z * 2 ≤ y * 4 + w * 2
    fours x y z w h e = omega arith

    crossed : (a * 2 + c) * (d * 2) ≤ (b * 2 + d) * (c * 2)
    crossed = le_trans (le_of_eq (spread a c d)) (le_trans (fours (a * d) (b * c) (c * d) (d * c) h (mul_comm c d)) (le_of_eq (sym (spread b d c))))

-- at most a whole number: so is what it rounds to
pub round-le : (a c b : ℕ) → 0 < c → a ≤ b * c → round_at a c ≤ b
round-le a c b C h = le_trans (round-rising a c b 1 C (zero-lt-suc 0) (le_trans (le_of_eq (mul-one a)) h)) (le_of_eq (whole b))
  where
    at-whole : (b r : ℕ) → r ≡ 0 → away b (compare (r * 2) 1) ≡ b
    at-whole b r z = away-lt (r * 2) 1 b (omega arith)

    whole : (b : ℕ) → round_at b 1 ≡ b
    whole b = ap (λ (q : ℕ). away q (compare (b % 1 * 2) 1)) (div-one b) ∙ at-whole b (b % 1) (omega arith)

-- ---- nanoseconds
pub nanos-rising : Rising nanos_at
nanos-rising a c b d C D h =
    closest_mono (a * 1000000000) c (b * 1000000000) d C D
    (le_trans (le_of_eq (mul_right_comm a 1000000000 d)) (le_trans (mul-le-mul_right 1000000000 h) (le_of_eq (mul_right_comm b c 1000000000))))
