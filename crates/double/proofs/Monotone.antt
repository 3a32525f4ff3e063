-- What rises with a double, or with a time: none of the readings ever falls. Assumes nothing.
use Rattle.std.proofs.Common.{◌≡◌, ℕ, ◌+◌, ◌*◌, ◌/◌, ◌%◌, ◌^◌, ◌<◌, ◌≤◌, min, Bool, true, false, ◌&&◌, ◌||◌, T, eqb, ltb, ◌⊎◌, ℤ, pos, sym, refl, ap, ◌∙◌, subst₂, inl, inr, le_trans, le_of_eq, lt_of_le_of_lt, add-le-add, mul-le-mul_right, zero-lt-suc, mul_assoc, suc-mul, mul_comm, add-mul, mul-pos, one-mul, mul-one, mul_right_comm, arith, eqb→eq, ltb-false, ltb-true}
use native.Mathlib.Nat.{mul-mul-mul_comm}
use lib.Ieee.{Float, nan, inf, fin, binary64, up, down, round, sum, add, mul, div, le, of_int}
use lib.Ieee.Fits.{down_pos, and_r}
use lib.Ieee.Exact.{HasValue}
use lib.Ieee.Back.{round_whole}
use lib.Ieee.Scale.{round_same}
use lib.Ieee.Positive.{num, den, den_pos, positive, own_value, value_pos}
use lib.Ieee.Order.{round_mono}
use Rattle.double.specs.Whole.{most, nat_of}
use Rattle.double.proofs.Fractions.{Rising}
use Rattle.double.proofs.Bounds.{UpTo, le-cross, at-most, plain-up-to}
use Rattle.double.proofs.Zeros.{factor-zero}
use Rattle.double.proofs.Plain.{Plain, plain-two, of-value, own-fraction}
use Rattle.double.proofs.Values.{mul-of-values, div-of-values}
use Rattle.double.specs.Seconds.{seconds_of, giga}
use Rattle.double.proofs.Times.{count-up-to, fraction-up-to}

-- ---- the whole numbers near a double
capped : (v w : ℕ) → v ≤ w → min v most ≤ min w most
capped v w h = omega arith

-- +0 is at most -0
zero-under : (a b : ℕ) → T (false || (eqb a b && (false || eqb a 0))) → a ≡ 0
zero-under a b t = eqb→eq a 0 (and_r (eqb a b) (eqb a 0) t)

pub nat-rising : (g : ℕ → ℕ → ℕ) → ((c : ℕ) → 0 < c → g 0 c ≡ 0) → Rising g → (x y : Float) → T (le x y) → nat_of g x ≤ nat_of g y
unfolding nat_of le
nat-rising g z r nan y h = absurd h
nat-rising g z r (inf true) y h = Prim.Native.Nat.zero-le
nat-rising g z r (inf false) nan h = absurd h
nat-rising g z r (inf false) (inf true) h = absurd h
nat-rising g z r (inf false) (inf false) h = le_of_eq refl
nat-rising g z r (inf false) (fin t n d) h = absurd h
nat-rising g z r (fin true m e) y h = Prim.Native.Nat.zero-le
nat-rising g z r (fin false m e) nan h = absurd h
nat-rising g z r (fin false m e) (inf true) h = absurd h
nat-rising g z r (fin false m e) (inf false) h = top (g (m * up e) (down e))
  where
    top : (v : ℕ) → min v most ≤ most
    top v = omega arith
nat-rising g z r (fin false m e) (fin true n d) h =
    le_of_eq (ap (λ (a : ℕ). min (g a (down e)) most) (factor-zero (m * up e) (down d) (down_pos d) (zero-under (m * up e * down d) (n * up d * down e) h)) ∙ ap (λ (v : ℕ). min v most) (z (down e) (down_pos e)))
nat-rising g z r (fin false m e) (fin false n d) h = capped (g (m * up e) (down e)) (g (n * up d) (down d)) (r (m * up e) (down e) (n * up d) (down d) (down_pos e) (down_pos d) (le-cross (m * up e * down d) (n * up d * down e) h))

-- ---- operations on what is finite and not negative
pub le-fraction : (x y : Float) → Plain x → Plain y → T (le x y) → num x * den y ≤ num y * den x
unfolding le
le-fraction x y p q = plain-two (λ (x y : Float). T (le x y) → num x * den y ≤ num y * den x) (λ m e n d. le-cross (m * up e * down d) (n * up d * down e)) x y p q

pub mul_is : (x y : Float) → Plain x → Plain y → mul binary64 x y ≡ round binary64 false (num x * num y) (den x * den y)
mul_is x y p q = mul-of-values binary64 x y (num x) (den x) (num y) (den y) (den_pos x) (den_pos y) (own-fraction x p) (own-fraction y q)

pub num_pos : (x : Float) → T (positive x) → 0 < num x
num_pos x p = value_pos x (num x) (den x) p (den_pos x) (own_value x p)

pub div_is : (x y : Float) → Plain x → T (positive y) → div binary64 x y ≡ round binary64 false (num x * den y) (num y * den x)
div_is x y p q = div-of-values binary64 false x y (num x) (den x) (num y) (den y) (den_pos x) (num_pos y q) (own-fraction x p) (own_value y q)

module _ (x y z : Float) (p : Plain x) (q : Plain y) (h : T (le x y)) where
  pub mul-rising : Plain z → T (le (mul binary64 x z) (mul binary64 y z))
  mul-rising r =
      subst₂ (λ (a b : Float). T (le a b)) (sym (mul_is x z p r)) (sym (mul_is y z q r))
      (round_mono binary64 (num x * num z) (den x * den z) (num y * num z) (den y * den z) (mul-pos (den_pos x) (den_pos z)) (mul-pos (den_pos y) (den_pos z))
      (le_trans (le_of_eq (mul-mul-mul_comm (num x) (num z) (den y) (den z)))
      (le_trans (mul-le-mul_right (num z * den z) (le-fraction x y p q h)) (le_of_eq (sym (mul-mul-mul_comm (num y) (num z) (den x) (den z)))))))

  pub div-rising : T (positive z) → T (le (div binary64 x z) (div binary64 y z))
  div-rising r =
      subst₂ (λ (a b : Float). T (le a b)) (sym (div_is x z p r)) (sym (div_is y z q r))
      (round_mono binary64 (num x * den z) (num z * den x) (num y * den z) (num z * den y) (mul-pos (num_pos z r) (den_pos x)) (mul-pos (num_pos z r) (den_pos y))
      (subst₂ (λ (a b : ℕ). a ≤ b) (scaled (num x) (den y) (den z) (num z)) (scaled (num y) (den x) (den z) (num z)) (mul-le-mul_right (den z * num z) (le-fraction x y p q h))))
    where
      scaled : (a i g n : ℕ) → a * i * (g * n) ≡ a * g * (n * i)
      scaled a i g n = mul-mul-mul_comm a i g n ∙ ap (λ (z : ℕ). a * g * z) (mul_comm i n)

pub plain-nat : (n : ℕ) → n ≤ most → Plain (of_int binary64 (pos n))
plain-nat n h = plain-up-to (of_int binary64 (pos n)) 18446744073709551616 (count-up-to n h)

pub of-nat-rising : (n k : ℕ) → n ≤ k → T (le (of_int binary64 (pos n)) (of_int binary64 (pos k)))
unfolding of_int
of-nat-rising n k h = round_mono binary64 n 1 k 1 (zero-lt-suc 0) (zero-lt-suc 0) (mul-le-mul_right 1 h)

-- ---- seconds: a whole number and a fraction that is at most 1
-- a whole number and a fraction over the fraction's denominator
add-whole : (x z : Float) (q : ℕ) → HasValue x false q 1 → Plain z → add binary64 x z ≡ round binary64 false (q * den z + num z) (den z)
unfolding add sum
add-whole x z q v p = plain-two (λ (x z : Float). HasValue x false q 1 → add binary64 x z ≡ round binary64 false (q * den z + num z) (den z)) joined x z (of-value x q 1 v) p v
  where
    factored : (q e d w : ℕ) → (q * e * d + w * e) * d ≡ (q * d + w) * (e * d)
    factored q e d w = ap (λ (z : ℕ). (z + w * e) * d) (mul_right_comm q e d) ∙ ap (λ (z : ℕ). z * d) (sym (add-mul (q * d) w e)) ∙ mul_assoc (q * d + w) e d

    joined : (m : ℕ) (e : ℤ) (n : ℕ) (d : ℤ) → HasValue (fin false m e) false q 1 → add binary64 (fin false m e) (fin false n d) ≡ round binary64 false (q * down d + n * up d) (down d)
    joined m e n d v =
        round_same binary64 false (m * up e * down d + n * up d * down e) (down e * down d) (q * down d + n * up d) (down d) (mul-pos (down_pos e) (down_pos d)) (down_pos d)
        (ap (λ (z : ℕ). (z * down d + n * up d * down e) * down d) (sym (mul-one (m * up e)) ∙ v.1) ∙ factored q (down e) (down d) (n * up d))

add-rising : (x y z w : Float) (q r : ℕ) → HasValue x false q 1 → HasValue y false r 1 → UpTo z 1 → UpTo w 1
    → (q < r) ⊎ ((q ≡ r) × T (le z w)) → T (le (add binary64 x z) (add binary64 y w))
add-rising x y z w q r v u p s h =
    subst₂ (λ (a b : Float). T (le a b)) (sym (add-whole x z q v (plain-up-to z 1 p))) (sym (add-whole y w r u (plain-up-to w 1 s)))
    (round_mono binary64 (q * den z + num z) (den z) (r * den w + num w) (den w) (den_pos z) (den_pos w) (elim h [ inl l ↦ apart l | inr e ↦ together e.0 (le-fraction z w (plain-up-to z 1 p) (plain-up-to w 1 s) e.1) ]))
  where
    apart : q < r → (q * den z + num z) * den w ≤ (r * den w + num w) * den z
    apart l =
        le_trans (mul-le-mul_right (den w) (le_trans (next (q * den z) (num z) (den z) (le_trans (at-most z 1 p) (le_of_eq (one-mul (den z))))) (le_of_eq (sym (suc-mul q (den z))))))
        (le_trans (mul-le-mul_right (den w) (mul-le-mul_right (den z) l)) (le_trans (le_of_eq (mul_right_comm r (den z) (den w))) (mul-le-mul_right (den z) (more (r * den w) (num w)))))
      where
        next : (a n d : ℕ) → n ≤ d → a + n ≤ a + d
        next a n d h = omega arith

        more : (a n : ℕ) → a ≤ a + n
        more a n = omega arith

    together : q ≡ r → num z * den w ≤ num w * den z → (q * den z + num z) * den w ≤ (r * den w + num w) * den z
    together e l =
        subst₂ (λ (a b : ℕ). a ≤ b) (sym (add-mul (q * den z) (num z) (den w))) (sym (add-mul (r * den w) (num w) (den z)))
        (add-le-add (le_of_eq (ap (λ (k : ℕ). k * den z * den w) e ∙ mul_right_comm r (den z) (den w))) l)

pub seconds-rising : (a b : ℕ) → a ≤ b → b < 2 ^ 64 → T (le (seconds_of a) (seconds_of b))
unfolding seconds_of of_int
seconds-rising a b h l =
    add-rising (of_int binary64 (pos (a / 1000000000))) (of_int binary64 (pos (b / 1000000000)))
    (div binary64 (of_int binary64 (pos (a % 1000000000))) giga) (div binary64 (of_int binary64 (pos (b % 1000000000))) giga)
    (a / 1000000000) (b / 1000000000) (whole (a / 1000000000) (few a (lt_of_le_of_lt h l))) (whole (b / 1000000000) (few b l))
    (fraction-up-to a) (fraction-up-to b) (go (ltb (a / 1000000000) (b / 1000000000)) refl)
  where
    whole : (n : ℕ) → n ≤ 2 ^ 53 → HasValue (of_int binary64 (pos n)) false n 1
    whole n h = round_whole binary64 false n h

    few : (ns : ℕ) → ns < 18446744073709551616 → ns / 1000000000 ≤ 9007199254740992
    few ns h = omega arith

    level : (a b : ℕ) → a ≤ b → b / 1000000000 ≤ a / 1000000000 → a / 1000000000 ≡ b / 1000000000
    level a b h k = omega arith

    left : (a b : ℕ) → a ≤ b → a / 1000000000 ≡ b / 1000000000 → a % 1000000000 ≤ b % 1000000000
    left a b h e = omega arith

    rest : (ns : ℕ) → Plain (of_int binary64 (pos (ns % 1000000000)))
    rest ns = plain-nat (ns % 1000000000) (below ns)
      where
        below : (ns : ℕ) → ns % 1000000000 ≤ most
        below ns = omega arith

    go : (t : Bool) → ltb (a / 1000000000) (b / 1000000000) ≡ t
        → (a / 1000000000 < b / 1000000000) ⊎ ((a / 1000000000 ≡ b / 1000000000) × T (le (div binary64 (of_int binary64 (pos (a % 1000000000))) giga) (div binary64 (of_int binary64 (pos (b % 1000000000))) giga)))
    go true e = inl (ltb-true (a / 1000000000) (b / 1000000000) e)
    go false e =
        let same = level a b h (ltb-false (a / 1000000000) (b / 1000000000) e) in
        inr (
          same,
          div-rising (of_int binary64 (pos (a % 1000000000))) (of_int binary64 (pos (b % 1000000000))) giga (rest a) (rest b)
              (of-nat-rising (a % 1000000000) (b % 1000000000) (left a b h same)) tt,
        )
