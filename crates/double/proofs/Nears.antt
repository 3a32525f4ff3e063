-- How near a rounded result lies: a double within k roundings of a fraction, through sums, products and quotients; seconds; and a whole
-- number that is taken of such a double. Assumes nothing.
use Rattle.std.proofs.Common.{◌≡◌, ℕ, ◌+◌, ◌*◌, ◌/◌, ◌%◌, ◌^◌, ◌<◌, ◌≤◌, false, T, pos, sym, refl, ap, ◌∙◌, subst, subst₂, inl, inr, le_trans, le_of_eq, le_of_lt, mul-le-mul_right, zero-lt-suc, mul_assoc, mul_comm, eq-zero-or-pos, add_comm, mul-le-mul_left, mul-pos, one-mul, zero-mul, mul-one, le_of_mul-le-mul_right, mul_left_comm, arith, lit<, lit≤, pow_pos, pow_mono, pow-add}
use lib.Ieee.{Float, binary64, round, sum, add, mul, div, of_int}
use lib.Ieee.Exact.{HasValue, round_exact}
use lib.Ieee.Back.{round_whole}
use lib.Ieee.Positive.{num, den, den_pos, positive, value→cross}
use lib.Ieee.Scale.{grid, round_val}
use Rattle.double.specs.Seconds.{seconds_of, giga}
use Rattle.double.specs.Between.{parts, one_part_more, Between}
use Rattle.double.proofs.Zeros.{factor-zero}
use Rattle.double.proofs.Plain.{Plain, plain-two, of-value}
use Rattle.double.proofs.Fractions.{Rising}
use Rattle.double.proofs.Close.{whole, over, Under, Close, close-exact, close_more, close-through, close-mul, close-div, close-add, under_twice}
use Rattle.double.proofs.Monotone.{mul_is, div_is, num_pos}
use Rattle.double.proofs.Units.{Sized, grid-close, grid-under}

-- ---- a double that lies within k roundings of a / c
pub record Near (k : ℕ) (x : Float) (a c : ℕ) : Type 0 where
  pub plain : Plain x
  pub close : Close k (num x) (den x) a c

pub near-value : (x : Float) (a c : ℕ) → HasValue x false a c → Near 0 x a c
near-value x a c v = record { plain = of-value x a c v; close = close-exact (num x) (den x) a c (value→cross x a c v) }

pub near-more : (k l : ℕ) (x : Float) (a c : ℕ) → k ≤ l → Near k x a c → Near l x a c
near-more k l x a c h n = record { plain = n.plain; close = close_more k (num x) (den x) a c l h n.close }

pub near-round : (a c : ℕ) → 0 < c → Sized 1000 a c → Near 1 (round binary64 false a c) a c
near-round a c C (inl e) =
    near-more 0 1 (round binary64 false a c) a c (lit≤ tt)
    (near-value (round binary64 false a c) a c
    (subst (λ (z : ℕ). HasValue (round binary64 false z c) false z c) (sym e)
    (round_exact binary64 false 0 c 0 0 C (pow_pos 53) (pow_pos 2098) (zero-mul (2 ^ 1074) ∙ sym (zero-mul c)))))
near-round a c C (inr h) =
    let large : 2 ^ 52 * c ≤ a * 2 ^ 1074 = le_trans (mul-le-mul_left (2 ^ 52) h.0) (le_trans (le_of_eq (mul_left_comm (2 ^ 52) a (2 ^ 1000))) (mul-le-mul_left a (lit≤ tt))) in
    let v = round_val binary64 a c (grid-under a c C large h.1) in
    let z = round binary64 false a c in
    record {
      plain = of-value z (grid binary64 a c) (2 ^ 1074) v;
      close = close-through 0 (num z) (den z) (grid binary64 a c) (2 ^ 1074) 1 a c (pow_pos 1074) (near-value z (grid binary64 a c) (2 ^ 1074) v).close (grid-close a c C large);
    }

-- what is at most 2 ^ t over at most 2 ^ t
pub sized-by : (t a c : ℕ) → 0 < c → c ≤ 2 ^ t → a ≤ 2 ^ t → Sized t a c
sized-by t a c C h l = elim (eq-zero-or-pos a) [
  | inl e ↦ inl e
  | inr A ↦ inr (le_trans h (le_trans (le_of_eq (sym (one-mul (2 ^ t)))) (mul-le-mul_right (2 ^ t) A)), le_trans l (le_trans (le_of_eq (sym (one-mul (2 ^ t)))) (mul-le-mul_right (2 ^ t) C)))
]

-- ---- what is close to a fraction of some size has about that size
sized-close : (k t a c b d : ℕ) → 0 < c → 0 < d → Close k a c b d → Sized t b d → Sized (t + k) a c
sized-close k t a c b d C D h (inl e) =
    inl (factor-zero a d D (zero_of (a * d) (le_trans (under_twice k a c b d h.high) (le_of_eq (ap (λ (z : ℕ). z * c * 2 ^ k) e ∙ ap (λ (z : ℕ). z * 2 ^ k) (zero-mul c) ∙ zero-mul (2 ^ k))))))
  where
    zero_of : (n : ℕ) → n ≤ 0 → n ≡ 0
    zero_of n h = omega arith
sized-close k t a c b d C D h (inr s) =
    inr (
      le_of_mul-le-mul_right
          (le_trans (mul-le-mul_left c s.0) (le_trans (le_of_eq (turned c b (2 ^ t))) (le_trans (mul-le-mul_right (2 ^ t) (under_twice k b d a c h.low)) (le_of_eq (joined a d)))))
          D,
      le_of_mul-le-mul_right
          (le_trans (under_twice k a c b d h.high) (le_trans (mul-le-mul_right (2 ^ k) (mul-le-mul_right c s.1)) (le_of_eq (spread c d))))
          D,
    )
  where
    turned : (c b w : ℕ) → c * (b * w) ≡ b * c * w
    turned c b w = simp (mul_assoc, mul_comm)

    joined : (a d : ℕ) → a * d * 2 ^ k * 2 ^ t ≡ a * 2 ^ (t + k) * d
    joined a d = simp (pow-add, mul_assoc, mul_comm, mul_left_comm)

    spread : (c d : ℕ) → d * 2 ^ t * c * 2 ^ k ≡ c * 2 ^ (t + k) * d
    spread c d = simp (pow-add, mul_assoc, mul_comm, mul_left_comm)

-- ---- one rounding more
module _ (k a c b d : ℕ) (C : 0 < c) (D : 0 < d) (few : k ≤ 100) (sized : Sized 900 b d) where
  near-rounded : Close k a c b d → Near (k + 1) (round binary64 false a c) b d
  near-rounded h =
      let z = near-round a c C (wider (sized-close k 900 a c b d C D h sized)) in
      let x = round binary64 false a c in
      record { plain = z.plain; close = subst (λ (i : ℕ). Close i (num x) (den x) b d) (add_comm 1 k) (close-through 1 (num x) (den x) a c k b d C z.close h) }
    where
      more : (k : ℕ) → k ≤ 100 → 900 + k ≤ 1000
      more k h = omega arith

      wider : Sized (900 + k) a c → Sized 1000 a c
      wider (inl e) = inl e
      wider (inr s) = inr (le_trans s.0 (mul-le-mul_left a (pow_mono (more k few))), le_trans s.1 (mul-le-mul_left c (pow_mono (more k few))))

-- ---- the operations: what they round is close to what it would be of the two fractions
add_is : (x y : Float) → Plain x → Plain y → add binary64 x y ≡ round binary64 false (num x * den y + num y * den x) (den x * den y)
unfolding add sum
add_is x y p q = plain-two (λ (x y : Float). add binary64 x y ≡ round binary64 false (num x * den y + num y * den x) (den x * den y)) (λ m e n d. refl) x y p q

module _ (k l : ℕ) (x y : Float) (a c b d : ℕ) (C : 0 < c) (few : k + l ≤ 100) (p : Near k x a c) (q : Near l y b d) where
  pub near_mul : 0 < d → Sized 900 (a * b) (c * d) → Near (k + l + 1) (mul binary64 x y) (a * b) (c * d)
  near_mul D s =
      subst (λ (z : Float). Near (k + l + 1) z (a * b) (c * d)) (sym (mul_is x y p.plain q.plain))
      (near-rounded (k + l) (num x * num y) (den x * den y) (a * b) (c * d) (mul-pos (den_pos x) (den_pos y)) (mul-pos C D) few s
      (close-mul k (num x) (den x) a c (num y) (den y) b d l p.close q.close))

  pub near_div : 0 < b → T (positive y) → Sized 900 (a * d) (c * b) → Near (k + l + 1) (div binary64 x y) (a * d) (c * b)
  near_div B t s =
      subst (λ (z : Float). Near (k + l + 1) z (a * d) (c * b)) (sym (div_is x y p.plain t))
      (near-rounded (k + l) (num x * den y) (num y * den x) (a * d) (c * b) (mul-pos (num_pos y t) (den_pos x)) (mul-pos C B) few s
      (subst (λ (z : ℕ). Close (k + l) (num x * den y) z (a * d) (c * b)) (mul_comm (den x) (num y))
      (close-div k (num x) (den x) a c (num y) (den y) b d l p.close q.close)))

pub near_add : (k : ℕ) (x y : Float) (a c b d : ℕ) → 0 < c → 0 < d → k ≤ 100 → Near k x a c → Near k y b d → Sized 900 (a * d + b * c) (c * d)
    → Near (k + 1) (add binary64 x y) (a * d + b * c) (c * d)
near_add k x y a c b d C D few p q s =
    subst (λ (z : Float). Near (k + 1) z (a * d + b * c) (c * d)) (sym (add_is x y p.plain q.plain))
    (near-rounded k (num x * den y + num y * den x) (den x * den y) (a * d + b * c) (c * d) (mul-pos (den_pos x) (den_pos y)) (mul-pos C D) few s
    (close-add k (num x) (den x) a c (num y) (den y) b d p.close q.close))

-- a whole number of 64 bits
pub near-whole : (n : ℕ) → n < 2 ^ 64 → Near 1 (of_int binary64 (pos n)) n 1
unfolding of_int
near-whole n h = near-round n 1 (zero-lt-suc 0) (sized-by 1000 n 1 (zero-lt-suc 0) (lit≤ tt) (le_trans (le_of_lt h) (lit≤ tt)))

-- whole seconds are exact, the rest is rounded once, and so is the sum
pub seconds-near : (ns : ℕ) → ns < 2 ^ 64 → Near 2 (seconds_of ns) ns 1000000000
unfolding seconds_of of_int
seconds-near ns h =
    let w = ns / 1000000000 in
    let f = ns % 1000000000 in
    let x = of_int binary64 (pos w) in
    let y = of_int binary64 (pos f) in
    subst (λ (n : ℕ). Near 2 (seconds_of ns) n 1000000000) (joined ns)
    (near_add 1 x (div binary64 y giga) w 1 (f * 1) 1000000000 (zero-lt-suc 0) (zero-lt-suc 999999999) (lit≤ tt)
    (near-more 0 1 x w 1 (lit≤ tt) (near-value x w 1 (round_whole binary64 false w (few ns h))))
    (near_div 0 0 y giga f 1 1000000000 1 (zero-lt-suc 0) (lit≤ tt) (near-value y f 1 (round_whole binary64 false f (rest ns))) (near-value giga 1000000000 1 (refl, refl))
    (zero-lt-suc 999999999) tt (sized-by 900 (f * 1) 1000000000 (zero-lt-suc 999999999) (lit≤ tt) (le_trans (le_of_eq (mul-one f)) (le_trans (rest ns) (lit≤ tt)))))
    (sized-by 900 (w * 1000000000 + f * 1 * 1) 1000000000 (zero-lt-suc 999999999) (lit≤ tt) (le_trans (le_of_eq (joined ns)) (le_trans (le_of_lt h) (lit≤ tt)))))
  where
    joined : (ns : ℕ) → ns / 1000000000 * 1000000000 + ns % 1000000000 * 1 * 1 ≡ ns
    joined ns = omega arith

    few : (ns : ℕ) → ns < 18446744073709551616 → ns / 1000000000 ≤ 9007199254740992
    few ns h = omega arith

    rest : (ns : ℕ) → ns % 1000000000 ≤ 9007199254740992
    rest ns = omega arith

-- ---- a whole number that is taken of it: six roundings are less than a part in 2 ^ 50
six : (a c b d : ℕ) → Under 6 a c b d → a * parts * d ≤ b * (c * one_part_more)
unfolding Under
six a c b d u = cut (whole ^ 6) (over ^ 6) parts one_part_more (lit< tt) (lit≤ tt) u
  where
    cut : (w o p m : ℕ) → 0 < w → o * p ≤ w * m → a * d * w ≤ b * c * o → a * p * d ≤ b * (c * m)
    cut w o p m W h u =
        le_of_mul-le-mul_right
        (subst₂ (λ (x y : ℕ). x ≤ y) left right (le_trans (mul-le-mul_right p u) (le_trans (le_of_eq (mul_assoc (b * c) o p)) (mul-le-mul_left (b * c) h)))) W
      where
        left : a * d * w * p ≡ a * p * d * w
        left = simp (mul_assoc, mul_comm)

        right : b * c * (w * m) ≡ b * (c * m) * w
        right = simp (mul_assoc, mul_comm, mul_left_comm)

module _ (k : ℕ) (x : Float) (a c : ℕ) (few : k ≤ 6) (C : 0 < c) (n : Near k x a c) where
  pub near-between : (g : ℕ → ℕ → ℕ) → Rising g → Between g (g (num x) (den x)) a c
  near-between g r =
      let h = close_more k (num x) (den x) a c 6 few n.close in
      record {
        least = r (a * parts) (c * one_part_more) (num x) (den x) (mul-pos C (lit< tt)) (den_pos x) (six a c (num x) (den x) h.low);
        most =
            r (num x) (den x) (a * one_part_more) (c * parts) (den_pos x) (mul-pos C (lit< tt))
            (subst₂ (λ (z w : ℕ). z ≤ w) (turned (num x) c parts) (sym (turned a (den x) one_part_more)) (six (num x) (den x) a c h.high));
      }
    where
      turned : (a b w : ℕ) → a * w * b ≡ a * (b * w)
      turned a b w = simp (mul_assoc, mul_comm)
