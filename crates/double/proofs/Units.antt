-- What one rounding to a double does: the result is at most half a unit away, and so at most a part in 2 ^ 53. Assumes nothing.
use Rattle.std.proofs.Common.{◌≡◌, ℕ, ◌+◌, ◌-◌, ◌*◌, ◌/◌, ◌%◌, ◌^◌, ◌<◌, ◌≤◌, min, Bool, true, false, eqb, ltb, ◌⊎◌, pos, sym, refl, ap, ◌∙◌, subst, subst₂, le_trans, le_of_eq, lt_of_lt_of_le, lt_of_le_of_lt, mul-le-mul_right, mod-lt, zero-lt-suc, mul_assoc, suc-mul, mul_comm, add-mul, mul-pos, one-mul, div-add-mod', le-div_iff_mul-le, le_of_mul-le-mul_right, div-one, mul_left_comm, arith, lit<, pow_pos, pow_mono, pow-add, shl_lt, ltb-false, ltb-true, eqb-true}
use Prim.Native.Nat.{compare}
use native.Mathlib.Nat.{mul-sub}
use borrow.Author.Tests.{eqb-false}
use lib.Ieee.{binary64, size, round, of_int}
use lib.Ieee.Digits.{size_reaches, size-le}
use lib.Ieee.Nearest.{closest, nearest-ge}
use lib.Ieee.Order.{drop}
use lib.Ieee.Scale.{grid, overflow, round_val, normal_of_fraction}
use Rattle.double.specs.Whole.{most, floor_of}
use Rattle.double.proofs.Orders.{near-lt, near-eq, near-gt}
use Rattle.double.proofs.Fractions.{floor-le}
use Rattle.double.proofs.Close.{whole, over, Under, Close, under_twice}
use Rattle.double.proofs.Values.{floor-of-value}

-- ---- to the nearest whole number: at most half a unit away
abbrev Half : ℕ → ℕ → ℕ → Type 0
Half n b q = (q * b * 2 ≤ n * 2 + b) × (n * 2 ≤ q * b * 2 + b)

pub closest-near : (n b : ℕ) → 0 < b → Half n b (closest n b)
closest-near n b B = go (ltb (n % b * 2) b) refl (eqb (n % b * 2) b) refl
  where
    joined : n / b * b + n % b ≡ n
    joined = div-add-mod' n b

    below : (m r : ℕ) → m + r ≡ n → r * 2 < b → (m * 2 ≤ n * 2 + b) × (n * 2 ≤ m * 2 + b)
    below m r e l = (omega arith, omega arith)

    even : (m r x : ℕ) → m + r ≡ n → r * 2 ≡ b → x ≤ b → ((m + x) * 2 ≤ n * 2 + b) × (n * 2 ≤ (m + x) * 2 + b)
    even m r x e l h = (omega arith, omega arith)

    above : (m r : ℕ) → m + r ≡ n → b < r * 2 → r < b → ((m + b) * 2 ≤ n * 2 + b) × (n * 2 ≤ (m + b) * 2 + b)
    above m r e l h = (omega arith, omega arith)

    past : (x : ℕ) → b ≤ x → (x ≡ b → ⊥) → b < x
    past x h n = omega arith

    odd : (q : ℕ) → q % 2 * b ≤ b
    odd q = le_trans (mul-le-mul_right b (one q)) (le_of_eq (one-mul b))
      where
        one : (q : ℕ) → q % 2 ≤ 1
        one q = omega arith

    go : (s : Bool) → ltb (n % b * 2) b ≡ s → (t : Bool) → eqb (n % b * 2) b ≡ t → Half n b (closest n b)
    go true l t e = subst (Half n b) (sym (near-lt (n % b * 2) b (n / b) (ltb-true (n % b * 2) b l))) (below (n / b * b) (n % b) joined (ltb-true (n % b * 2) b l))
    go false l true e =
        let q = n / b in
        subst (Half n b) (sym (near-eq (n % b * 2) b q (eqb-true (n % b * 2) b e)))
        (subst (λ (z : ℕ). (z * 2 ≤ n * 2 + b) × (n * 2 ≤ z * 2 + b)) (sym (add-mul q (q % 2) b)) (even (q * b) (n % b) (q % 2 * b) joined (eqb-true (n % b * 2) b e) (odd q)))
    go false l false e =
        let q = n / b in
        let g : b < n % b * 2 = past (n % b * 2) (ltb-false (n % b * 2) b l) (eqb-false (n % b * 2) b e) in
        subst (Half n b) (sym (near-gt (n % b * 2) b q g))
        (subst (λ (z : ℕ). (z * 2 ≤ n * 2 + b) × (n * 2 ≤ z * 2 + b)) (sym (suc-mul q b)) (above (q * b) (n % b) joined g (mod-lt n B)))

-- ---- a fraction that the format has with all its digits: 0, or neither too small nor too large
abbrev pub Sized : ℕ → ℕ → ℕ → Type 0
Sized t a c = (a ≡ 0) ⊎ ((c ≤ a * 2 ^ t) × (a ≤ c * 2 ^ t))

-- the unit that the result is a multiple of is at most 2 ^ -52 of it
module _ (a c : ℕ) (C : 0 < c) (large : 2 ^ 52 * c ≤ a * 2 ^ 1074) where
  abbrev units : ℕ
  units = a * 2 ^ 1074

  abbrev unit : ℕ
  unit = c * 2 ^ drop 53 units c

  unit-le : 2 ^ 52 * unit ≤ units
  unit-le =
      let k = drop 53 units c in
      le_trans (le_of_eq (simp (mul_assoc, mul_comm, mul_left_comm, pow-add)))
      ((le-div_iff_mul-le C).0 (size_reaches (units / c) (52 + k) (all (size (units / c)) (normal_of_fraction binary64 a c C large))))
    where
      all : (z : ℕ) → 53 ≤ z → 52 + (z - 53) < z
      all z h = omega arith

  abbrev q : ℕ
  q = closest units unit

  unit-pos : 0 < unit
  unit-pos = mul-pos C (pow_pos (drop 53 units c))

  -- and so the result, which has at least 2 ^ 52 units, is close
  q-ge : 2 ^ 52 * unit ≤ q * unit
  q-ge = mul-le-mul_right unit (le_trans ((le-div_iff_mul-le unit-pos).1 unit-le) (nearest-ge (units / unit) (compare (units % unit * 2) unit)))

  grid-is : q * unit ≡ grid binary64 a c * c
  grid-is = simp (mul_assoc, mul_comm, mul_left_comm)

  pub grid-close : Close 1 (grid binary64 a c) (2 ^ 1074) a c
  unfolding Under
  grid-close =
      let h = closest-near units unit unit-pos in
      record {
        low = subst (λ (z : ℕ). units * whole ≤ z * over) grid-is (least units (q * unit) unit h.1 q-ge);
        high = subst (λ (z : ℕ). z * whole ≤ units * over) grid-is (most units (q * unit) unit h.0 unit-le);
      }
    where
      least : (n x b : ℕ) → n * 2 ≤ x * 2 + b → 4503599627370496 * b ≤ x → n * 9007199254740992 ≤ x * 9007199254740993
      least n x b h l = omega arith

      most : (n x b : ℕ) → x * 2 ≤ n * 2 + b → 4503599627370496 * b ≤ n → x * 9007199254740992 ≤ n * 9007199254740993
      most n x b h l = omega arith

  pub grid-under : a ≤ c * 2 ^ 1000 → grid binary64 a c < overflow binary64
  grid-under h =
      lt_of_le_of_lt
      (le_of_mul-le-mul_right
      (le_trans (under_twice 1 (grid binary64 a c) (2 ^ 1074) a c grid-close.high)
      (le_trans (mul-le-mul_right 2 (mul-le-mul_right (2 ^ 1074) h)) (le_of_eq (turned c (2 ^ 1000) (2 ^ 1074) 2)))) C)
      (lit< tt)
    where
      turned : (c s p w : ℕ) → c * s * p * w ≡ s * p * w * c
      turned c s p w = simp (mul_assoc, mul_comm, mul_left_comm)

-- ---- a whole number that is rounded to a double is at most half a unit away. Below 2 ^ (54 + j) a unit is at most 2 ^ (1 + j)
module _ (n j : ℕ) (few : j ≤ 9) (h : n < 2 ^ (54 + j)) where
  abbrev w : ℕ
  w = n * 2 ^ 1074

  abbrev u : ℕ
  u = 1 * 2 ^ drop 53 w 1

  half-unit : u ≤ 2 ^ j * 2 ^ 1074 * 2
  half-unit =
      le_trans (le_of_eq (one-mul (2 ^ drop 53 w 1)))
      (le_trans (pow_mono (less (size (w / 1)) j (size-le (w / 1) (54 + j + 1074) (subst (λ (z : ℕ). z < 2 ^ (54 + j + 1074)) (sym (div-one w)) (shl_lt (54 + j) 1074 h)))))
      (le_of_eq (pow-add 2 (j + 1074) 1 ∙ ap (λ (z : ℕ). z * 2) (pow-add 2 j 1074))))
    where
      less : (z j : ℕ) → z ≤ 54 + j + 1074 → z - 53 ≤ j + 1074 + 1
      less z j h = omega arith

  grid-whole : closest w u * u ≡ grid binary64 n 1
  grid-whole = ap (λ (z : ℕ). closest w u * z) (one-mul (2 ^ drop 53 w 1))

  grid-near : (grid binary64 n 1 ≤ (n + 2 ^ j) * 2 ^ 1074) × (w ≤ grid binary64 n 1 + 2 ^ j * 2 ^ 1074)
  grid-near =
      let c = closest-near w u (mul-pos (zero-lt-suc 0) (pow_pos (drop 53 w 1))) in
      let g = subst (λ (z : ℕ). (z * 2 ≤ w * 2 + u) × (w * 2 ≤ z * 2 + u)) grid-whole c in (
        le_trans (most (grid binary64 n 1) w u (2 ^ j * 2 ^ 1074) g.0 half-unit) (le_of_eq (sym (add-mul n (2 ^ j) (2 ^ 1074)))),
        least (grid binary64 n 1) w u (2 ^ j * 2 ^ 1074) g.1 half-unit,
      )
    where
      most : (g w u t : ℕ) → g * 2 ≤ w * 2 + u → u ≤ t * 2 → g ≤ w + t
      most g w u t h l = omega arith

      least : (g w u t : ℕ) → w * 2 ≤ g * 2 + u → u ≤ t * 2 → w ≤ g + t
      least g w u t h l = omega arith

  room : n + 2 ^ j ≤ most
  room = both n (2 ^ j) (lt_of_lt_of_le h (pow_mono {i = 54 + j} {j = 63} (sum j few))) (pow_mono {i = j} {j = 9} few)
    where
      sum : (j : ℕ) → j ≤ 9 → 54 + j ≤ 63
      sum j h = omega arith

      both : (n x : ℕ) → n < 9223372036854775808 → x ≤ 512 → n + x ≤ most
      both n x h l = omega arith

  pub floor-near : (floor_of (of_int binary64 (pos n)) ≤ n + 2 ^ j) × (n ≤ floor_of (of_int binary64 (pos n)) + 2 ^ j)
  unfolding of_int
  floor-near =
      let g = grid binary64 n 1 in
      let v = round_val binary64 n 1 (lt_of_le_of_lt (le_trans grid-near.0 (mul-le-mul_right (2 ^ 1074) room)) (lit< tt)) in
      cut (g / 2 ^ 1074) (n + 2 ^ j) (floor_of (round binary64 false n 1)) (2 ^ j) (floor-of-value (round binary64 false n 1) g (2 ^ 1074) (pow_pos 1074) v)
      (floor-le g (2 ^ 1074) (n + 2 ^ j) (pow_pos 1074) grid-near.0) room
      ((le-div_iff_mul-le (pow_pos 1074)).1
      (le_trans (le_of_eq (mul_comm (n - 2 ^ j) (2 ^ 1074) ∙ mul-sub (2 ^ 1074) n (2 ^ j)))
      (less (2 ^ 1074 * n) (2 ^ 1074 * 2 ^ j) g (subst₂ (λ (x y : ℕ). x ≤ g + y) (mul_comm n (2 ^ 1074)) (mul_comm (2 ^ j) (2 ^ 1074)) grid-near.1))))
    where
      less : (x y g : ℕ) → x ≤ g + y → x - y ≤ g
      less x y g h = omega arith

      cut : (f t v y : ℕ) → v ≡ min f most → f ≤ t → t ≤ most → n - y ≤ f → (v ≤ t) × (n ≤ v + y)
      cut f t v y e h l k = (omega arith, omega arith)
