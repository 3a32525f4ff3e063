-- Upper bounds through rounding: what stays at or below a whole number that is a double. Assumes nothing.
use Rattle.std.proofs.Common.{◌≡◌, ℕ, ◌+◌, ◌*◌, ◌^◌, ◌<◌, ◌≤◌, Bool, true, false, ◌&&◌, ◌||◌, T, eqb, ltb, ℤ, pos, sym, refl, ap, ◌∙◌, subst, true≢false, le_trans, le_of_eq, le_of_lt, add-le-add, mul-le-mul_right, zero-lt-suc, mul_assoc, add-mul, mul-le-mul, mul-pos, one-mul, mul-one, mul_right_comm, le_of_mul-le-mul_right, lit<, eqb→eq, ltb→lt}
use native.Mathlib.Nat.{mul-mul-mul_comm}
use lib.Pow.{pow-lt}
use lib.Ieee.{Float, nan, inf, fin, binary64, up, down, round, add, mul, div, le, of_int}
use lib.Ieee.Fits.{up_pos, down_pos, and_l}
use lib.Ieee.Exact.{HasValue}
use lib.Ieee.Back.{round_whole}
use lib.Ieee.Order.{round_mono}
use lib.Ieee.Positive.{num, den, positive}
use Rattle.double.proofs.Plain.{Plain, plain-two, of_positive}
use Rattle.double.proofs.Signs.{minus?, round-sign}
use Rattle.double.proofs.Rounded.{up-value}
use Rattle.double.proofs.Values.{div-at}

-- b is a double
abbrev pub Exact : ℕ → Type 0
Exact b = HasValue (round binary64 false b 1) false b 1

pub exact-small : (b : ℕ) → b ≤ 2 ^ 53 → Exact b
exact-small b h = round_whole binary64 false b h

pub exact-power : (i : ℕ) → i < 1024 → Exact (2 ^ i)
exact-power i h = subst Exact (one-mul (2 ^ i)) (up-value binary64 false 1 i (lit< tt) (subst (λ (z : ℕ). z < 2 ^ 1024) (sym (one-mul (2 ^ i))) (pow-lt h)))

-- finite, not negative, and at most b
abbrev pub UpTo : Float → ℕ → Type 0
UpTo nan b = ⊥
UpTo (inf s) b = ⊥
UpTo (fin s m e) b = (s ≡ false) × (m * up e ≤ b * down e)

-- `le` of two that are not negative
pub le-cross : (a b : ℕ) → T (ltb a b || (eqb a b && true)) → a ≤ b
le-cross a b = go (ltb a b) (ltb→lt a b)
  where
    go : (l : Bool) → (T l → a < b) → T (l || (eqb a b && true)) → a ≤ b
    go true f t = le_of_lt (f tt)
    go false f t = le_of_eq (eqb→eq a b (and_l (eqb a b) true t))

under : (z w : Float) (b : ℕ) → minus? z ≡ false → T (le z w) → HasValue w false b 1 → UpTo z b
unfolding le
under nan w b s l v = absurd l
under (inf true) w b s l v = absurd (true≢false s)
under (inf false) nan b s l v = absurd v
under (inf false) (inf t) b s l v = absurd v
under (inf false) (fin t n d) b s l v = absurd l
under (fin true m e) w b s l v = absurd (true≢false s)
under (fin false m e) nan b s l v = absurd v
under (fin false m e) (inf t) b s l v = absurd v
under (fin false m e) (fin true n d) b s l v = absurd (true≢false v.0)
under (fin false m e) (fin false n d) b s l v =
    (refl, through (m * up e) (down e) (n * up d) (down d) b (down_pos d) (le-cross (m * up e * down d) (n * up d * down e) l) (sym (mul-one (n * up d)) ∙ v.1))
  where
    through : (x p y q b : ℕ) → 0 < q → x * q ≤ y * p → y ≡ b * q → x ≤ b * p
    through x p y q b Q h e = le_of_mul-le-mul_right (le_trans h (le_of_eq (ap (λ (z : ℕ). z * p) e ∙ mul_right_comm b q p))) Q

pub round-up-to : (a c b : ℕ) → 0 < c → Exact b → a ≤ b * c → UpTo (round binary64 false a c) b
round-up-to a c b C B h =
    under (round binary64 false a c) (round binary64 false b 1) b (round-sign binary64 false a c)
    (round_mono binary64 a c b 1 C (zero-lt-suc 0) (le_trans (le_of_eq (mul-one a)) h)) B

pub of-nat-up-to : (n b : ℕ) → Exact b → n ≤ b → UpTo (of_int binary64 (pos n)) b
unfolding of_int
of-nat-up-to n b B h = round-up-to n 1 b (zero-lt-suc 0) B (le_trans h (le_of_eq (sym (mul-one b))))

pub plain-up-to : (x : Float) (b : ℕ) → UpTo x b → Plain x
plain-up-to nan b p = p
plain-up-to (inf s) b p = p
plain-up-to (fin s m e) b p = p.0

pub add-up-to : (x y : Float) (b c : ℕ) → Exact (b + c) → UpTo x b → UpTo y c → UpTo (add binary64 x y) (b + c)
unfolding add
add-up-to x y b c B p q = plain-two (λ (x y : Float). UpTo x b → UpTo y c → UpTo (add binary64 x y) (b + c)) bounded x y (plain-up-to x b p) (plain-up-to y c q) p q
  where
    bounded : (m : ℕ) (e : ℤ) (n : ℕ) (d : ℤ) → UpTo (fin false m e) b → UpTo (fin false n d) c → UpTo (add binary64 (fin false m e) (fin false n d)) (b + c)
    bounded m e n d p q =
        round-up-to (m * up e * down d + n * up d * down e) (down e * down d) (b + c) (mul-pos (down_pos e) (down_pos d)) B
        (le_trans (add-le-add (mul-le-mul_right (down d) p.1) (mul-le-mul_right (down e) q.1))
        (le_of_eq (ap (λ (z : ℕ). z + c * down d * down e) (mul_assoc b (down e) (down d)) ∙ ap (λ (z : ℕ). b * (down e * down d) + z) (mul_right_comm c (down d) (down e) ∙ mul_assoc c (down e) (down d)) ∙ sym (add-mul b c (down e * down d)))))

-- a product, below a bound of the two bounds' own
pub mul-within : (x y : Float) (b c t : ℕ) → Exact t → b * c ≤ t → UpTo x b → UpTo y c → UpTo (mul binary64 x y) t
unfolding mul
mul-within x y b c t B h p q = plain-two (λ (x y : Float). UpTo x b → UpTo y c → UpTo (mul binary64 x y) t) bounded x y (plain-up-to x b p) (plain-up-to y c q) p q
  where
    bounded : (m : ℕ) (e : ℤ) (n : ℕ) (d : ℤ) → UpTo (fin false m e) b → UpTo (fin false n d) c → UpTo (mul binary64 (fin false m e) (fin false n d)) t
    bounded m e n d p q =
        round-up-to (m * up e * (n * up d)) (down e * down d) t (mul-pos (down_pos e) (down_pos d)) B
        (le_trans (mul-le-mul p.1 q.1) (le_trans (le_of_eq (mul-mul-mul_comm b (down e) c (down d))) (mul-le-mul_right (down e * down d) h)))

pub mul-up-to : (x y : Float) (b c : ℕ) → Exact (b * c) → UpTo x b → UpTo y c → UpTo (mul binary64 x y) (b * c)
mul-up-to x y b c B p q = mul-within x y b c (b * c) B (le_of_eq refl) p q

-- a quotient by what is above 0: x at most b times y
pub div-up-to : (x y : Float) (b c : ℕ) → T (positive y) → Exact b → UpTo x c → c * den y ≤ b * num y → UpTo (div binary64 x y) b
div-up-to x y b c p B u h =
    plain-two (λ (x y : Float). T (positive y) → UpTo x c → c * den y ≤ b * num y → UpTo (div binary64 x y) b) bounded x y (plain-up-to x c u) (of_positive y p) p u h
  where
    bounded : (m : ℕ) (e : ℤ) (n : ℕ) (d : ℤ) → T (positive (fin false n d)) → UpTo (fin false m e) c → c * down d ≤ b * (n * up d) → UpTo (div binary64 (fin false m e) (fin false n d)) b
    bounded m e n d p u h =
        let N : 0 < n = ltb→lt 0 n p in
        subst (λ (y : Float). UpTo y b) (sym (div-at binary64 false m e n d N))
        (round-up-to (m * up e * down d) (n * up d * down e) b (mul-pos (mul-pos N (up_pos d)) (down_pos e)) B
        (le_trans (mul-le-mul_right (down d) u.1) (le_trans (le_of_eq (mul_right_comm c (down e) (down d))) (le_trans (mul-le-mul_right (down e) h) (le_of_eq (mul_assoc b (n * up d) (down e)))))))

-- a lower bound serves a higher one
pub up-to-more : (x : Float) (b c : ℕ) → b ≤ c → UpTo x b → UpTo x c
up-to-more nan b c h p = p
up-to-more (inf s) b c h p = p
up-to-more (fin s m e) b c h p = (p.0, le_trans p.1 (mul-le-mul_right (down e) h))

pub at-most : (x : Float) (b : ℕ) → UpTo x b → num x ≤ b * den x
at-most nan b p = absurd p
at-most (inf s) b p = absurd p
at-most (fin s m e) b p = p.1

-- a whole number at most b, as a rate is
pub whole-up-to : (x : Float) (r b : ℕ) → HasValue x false r 1 → r ≤ b → UpTo x b
whole-up-to nan r b v h = absurd v
whole-up-to (inf s) r b v h = absurd v
whole-up-to (fin s m e) r b v h = (v.0, le_trans (le_of_eq (sym (mul-one (m * up e)) ∙ v.1)) (mul-le-mul_right (down e) h))
