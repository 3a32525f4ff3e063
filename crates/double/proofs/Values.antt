-- Doubles that have a whole or a fractional value exactly: their floor, difference, product and quotient, and how they compare. Assumes nothing.
use Rattle.std.proofs.Common.{◌≡◌, ℕ, ◌-◌, ◌*◌, ◌/◌, ◌^◌, ◌<◌, ◌≤◌, min, Bool, true, false, cond, not, ◌&&◌, T, eqb, ltb, ℤ, pos, sym, refl, ap, ◌∙◌, subst, true≢false, le_of_eq, lt_of_lt_of_le, lt_of_le_of_lt, lt_irrefl, mul-le-mul_right, zero-lt-suc, mul_assoc, mul_comm, lt_of_mul-lt-mul_right, mul-lt-mul_of_pos_right, mul-pos, zero-mul, mul-one, mul_right_comm, not-le_of_lt, div-one, arith, eqb→eq, ltb→lt, lt→ltb, nltb→le, eq-eqb, ne_eqb}
use native.Mathlib.Nat.{mul-sub, mul-mul-mul_comm, eq_of_mul-eq-mul_right}
use lib.Ieee.{Float, nan, inf, fin, Format, prec, up, down, round, sum, sub, mul, div, lt, eq, of_int, unlike}
use lib.Ieee.Fits.{up_pos, down_pos, and_l, and_r}
use lib.Ieee.Exact.{HasValue}
use lib.Ieee.Back.{round_whole}
use lib.Ieee.Scale.{round_same}
use lib.Ieee.Positive.{first_pos}
use Rattle.double.specs.Whole.{most, nat_of, floor_of}
use Rattle.double.proofs.Orders.{bool-ext}
use Rattle.double.proofs.Zeros.{factor-zero}
use Rattle.double.proofs.Plain.{plain, of-value}
use Rattle.double.proofs.Signs.{minus?}
use Rattle.double.proofs.Unique.{cross}
use Rattle.double.proofs.Floors.{cut-of-value, cast-is-floor}

-- ---- the floor
pub floor-of-value : (x : Float) (a c : ℕ) → 0 < c → HasValue x false a c → floor_of x ≡ min (a / c) most
floor-of-value x a c C v = sym (cast-is-floor x) ∙ cut-of-value 64 x a c C v

pub floor-of-whole : (x : Float) (n : ℕ) → n ≤ most → HasValue x false n 1 → floor_of x ≡ n
floor-of-whole x n h v = floor-of-value x n 1 (zero-lt-suc 0) v ∙ ap (λ (z : ℕ). min z most) (div-one n) ∙ omega arith

-- what is negative has nothing
pub nat-minus : (g : ℕ → ℕ → ℕ) (x : Float) → minus? x ≡ true → nat_of g x ≡ 0
unfolding nat_of
nat-minus g nan h = refl
nat-minus g (inf true) h = refl
nat-minus g (inf false) h = absurd (true≢false (sym h))
nat-minus g (fin true m e) h = refl
nat-minus g (fin false m e) h = absurd (true≢false (sym h))

-- ---- a difference of two whole numbers
module _ (f : Format) (a b c : ℕ) where
  sum-ge : b ≤ a → sum f false a true b c ≡ round f false (a - b) c
  unfolding sum
  sum-ge h = go (ltb a b) (ltb→lt a b)
    where
      go : (t : Bool) → (T t → a < b) → cond t (round f true (b - a) c) (round f false (a - b) c) ≡ round f false (a - b) c
      go true k = absurd (not-le_of_lt (k tt) h)
      go false k = refl

  sum_lt : a < b → sum f false a true b c ≡ round f true (b - a) c
  unfolding sum
  sum_lt h = go (ltb a b) (nltb→le a b)
    where
      go : (t : Bool) → (T (not t) → b ≤ a) → cond t (round f true (b - a) c) (round f false (a - b) c) ≡ round f true (b - a) c
      go true k = refl
      go false k = absurd (not-le_of_lt h (k tt))

-- a common factor goes out of a difference, over a denominator of 1
over : (a b d : ℕ) → (a * d - b * d) * 1 ≡ (a - b) * d
over a b d =
    mul-one (a * d - b * d)
    ∙ sym (mul_comm (a - b) d ∙ mul-sub d a b ∙ ap (λ (z : ℕ). z - d * b) (mul_comm d a) ∙ ap (λ (z : ℕ). a * d - z) (mul_comm d b))

module _ (f : Format) (m : ℕ) (e : ℤ) (n : ℕ) (d : ℤ) (i k : ℕ) (v : m * up e * 1 ≡ i * down e) (w : n * up d * 1 ≡ k * down d) where
  left : m * up e * down d ≡ i * (down e * down d)
  left = ap (λ (z : ℕ). z * down d) (sym (mul-one (m * up e)) ∙ v) ∙ mul_assoc i (down e) (down d)

  right : n * up d * down e ≡ k * (down e * down d)
  right = ap (λ (z : ℕ). z * down e) (sym (mul-one (n * up d)) ∙ w) ∙ mul_right_comm k (down d) (down e) ∙ mul_assoc k (down e) (down d)

  opened : sub f (fin false m e) (fin false n d) ≡ sum f false (i * (down e * down d)) true (k * (down e * down d)) (down e * down d)
  unfolding sub
  opened =
      ap (λ (z : ℕ). sum f false z true (n * up d * down e) (down e * down d)) left
      ∙ ap (λ (z : ℕ). sum f false (i * (down e * down d)) true z (down e * down d)) right

  both : 0 < down e * down d
  both = mul-pos (down_pos e) (down_pos d)

  fin-ge : k ≤ i → sub f (fin false m e) (fin false n d) ≡ round f false (i - k) 1
  fin-ge h =
      opened ∙ sum-ge f (i * (down e * down d)) (k * (down e * down d)) (down e * down d) (mul-le-mul_right (down e * down d) h)
      ∙ round_same f false (i * (down e * down d) - k * (down e * down d)) (down e * down d) (i - k) 1 both (zero-lt-suc 0) (over i k (down e * down d))

  fin-lt : i < k → sub f (fin false m e) (fin false n d) ≡ round f true (k - i) 1
  fin-lt h =
      opened ∙ sum_lt f (i * (down e * down d)) (k * (down e * down d)) (down e * down d) (mul-lt-mul_of_pos_right h both)
      ∙ round_same f true (k * (down e * down d) - i * (down e * down d)) (down e * down d) (k - i) 1 both (zero-lt-suc 0) (over k i (down e * down d))

-- what holds of two such numbers holds of two doubles that have their values
of_values : {A : Type 0} (g : Float → Float → A) (r : A) (s : Bool) (i c k d : ℕ)
    → ((m : ℕ) (e : ℤ) (n : ℕ) (p : ℤ) → m * up e * c ≡ i * down e → n * up p * d ≡ k * down p → g (fin s m e) (fin false n p) ≡ r)
    → (x y : Float) → HasValue x s i c → HasValue y false k d → g x y ≡ r
of_values g r s i c k d f nan y v w = absurd v
of_values g r s i c k d f (inf t) y v w = absurd v
of_values g r s i c k d f (fin t m e) nan v w = absurd w
of_values g r s i c k d f (fin t m e) (inf u) v w = absurd w
of_values g r s i c k d f (fin t m e) (fin u n p) v w =
    ap (λ (b : Bool). g (fin b m e) (fin u n p)) v.0 ∙ ap (λ (b : Bool). g (fin s m e) (fin b n p)) w.0 ∙ f m e n p v.1 w.1

pub sub-ge : (f : Format) (x y : Float) (i k : ℕ) → HasValue x false i 1 → HasValue y false k 1 → k ≤ i → sub f x y ≡ round f false (i - k) 1
sub-ge f x y i k v w h = of_values (sub f) (round f false (i - k) 1) false i 1 k 1 (λ m e n d p q. fin-ge f m e n d i k p q h) x y v w

pub sub-lt : (f : Format) (x y : Float) (i k : ℕ) → HasValue x false i 1 → HasValue y false k 1 → i < k → sub f x y ≡ round f true (k - i) 1
sub-lt f x y i k v w h = of_values (sub f) (round f true (k - i) 1) false i 1 k 1 (λ m e n d p q. fin-lt f m e n d i k p q h) x y v w

-- ---- a product, 0 included
pub mul-of-values : (f : Format) (x y : Float) (a c b d : ℕ) → 0 < c → 0 < d → HasValue x false a c → HasValue y false b d → mul f x y ≡ round f false (a * b) (c * d)
unfolding mul
mul-of-values f x y a c b d C D v w = of_values (mul f) (round f false (a * b) (c * d)) false a c b d multiplied x y v w
  where
    multiplied : (m : ℕ) (e : ℤ) (n : ℕ) (g : ℤ) → m * up e * c ≡ a * down e → n * up g * d ≡ b * down g → mul f (fin false m e) (fin false n g) ≡ round f false (a * b) (c * d)
    multiplied m e n g v w =
        round_same f false (m * up e * (n * up g)) (down e * down g) (a * b) (c * d) (mul-pos (down_pos e) (down_pos g)) (mul-pos C D)
        (mul-mul-mul_comm (m * up e) (n * up g) c d ∙ ap (λ (z : ℕ). z * (n * up g * d)) v ∙ ap (λ (z : ℕ). a * down e * z) w ∙ mul-mul-mul_comm a (down e) b (down g))

-- two whole numbers that are values of the format: rounded once
pub mul-whole : (f : Format) (a b : ℕ) → a ≤ 2 ^ prec f → b ≤ 2 ^ prec f → mul f (of_int f (pos a)) (of_int f (pos b)) ≡ of_int f (pos (a * b))
unfolding of_int
mul-whole f a b A B = mul-of-values f (of_int f (pos a)) (of_int f (pos b)) a 1 b 1 (zero-lt-suc 0) (zero-lt-suc 0) (round_whole f false a A) (round_whole f false b B)

-- ---- a quotient by what is above 0

pub div-at : (f : Format) (s : Bool) (m : ℕ) (e : ℤ) (n : ℕ) (d : ℤ) → 0 < n
    → div f (fin s m e) (fin false n d) ≡ round f s (m * up e * down d) (n * up d * down e)
unfolding div
div-at f s m e n d N =
    ap (λ (t : Bool). cond t (cond (eqb m 0) nan (inf (unlike s false))) (round f (unlike s false) (m * up e * down d) (n * up d * down e))) (ne_eqb n 0 (λ z. absurd (omega arith)))
    ∙ ap (λ (t : Bool). round f t (m * up e * down d) (n * up d * down e)) (unlike-plus s)
  where
    unlike-plus : (s : Bool) → unlike s false ≡ s
    unlike-plus true = refl
    unlike-plus false = refl

-- by any fractions that the two equal
pub div-of-values : (f : Format) (s : Bool) (x y : Float) (a c b d : ℕ) → 0 < c → 0 < b → HasValue x s a c → HasValue y false b d
    → div f x y ≡ round f s (a * d) (b * c)
div-of-values f s x y a c b d C B v w = of_values (div f) (round f s (a * d) (b * c)) s a c b d divided x y v w
  where
    crossed : (x p y q : ℕ) → x * c ≡ a * p → y * d ≡ b * q → x * q * (b * c) ≡ a * d * (y * p)
    crossed x p y q v w =
        ap (λ (z : ℕ). x * q * z) (mul_comm b c) ∙ mul-mul-mul_comm x q c b ∙ ap (λ (z : ℕ). z * (q * b)) v ∙ ap (λ (z : ℕ). a * p * z) (mul_comm q b ∙ sym w ∙ mul_comm y d)
        ∙ mul-mul-mul_comm a p d y ∙ ap (λ (z : ℕ). a * d * z) (mul_comm p y)

    divided : (m : ℕ) (e : ℤ) (n : ℕ) (g : ℤ) → m * up e * c ≡ a * down e → n * up g * d ≡ b * down g → div f (fin s m e) (fin false n g) ≡ round f s (a * d) (b * c)
    divided m e n g v w =
        let N : 0 < n = first_pos n (up g) (first_pos (n * up g) d (subst (λ (z : ℕ). 0 < z) (sym w) (mul-pos B (down_pos g)))) in
        div-at f s m e n g N
        ∙ round_same f s (m * up e * down g) (n * up g * down e) (a * d) (b * c) (mul-pos (mul-pos N (up_pos g)) (down_pos e)) (mul-pos B C) (crossed (m * up e) (down e) (n * up g) (down g) v w)

-- ---- how they compare: as their fractions do
crossed : (x p y q a c b d : ℕ) → 0 < c → 0 < d → x * c ≡ a * p → y * d ≡ b * q → x * q < y * p → a * d < b * c
crossed x p y q a c b d C D v w h =
    lt_of_mul-lt-mul_right (p * q)
    (lt_of_le_of_lt (le_of_eq (sym first)) (lt_of_lt_of_le (mul-lt-mul_of_pos_right h (mul-pos C D)) (le_of_eq second)))
  where
    first : x * q * (c * d) ≡ a * d * (p * q)
    first = mul-mul-mul_comm x q c d ∙ ap (λ (z : ℕ). z * (q * d)) v ∙ ap (λ (z : ℕ). a * p * z) (mul_comm q d) ∙ mul-mul-mul_comm a p d q

    second : y * p * (c * d) ≡ b * c * (p * q)
    second =
        ap (λ (z : ℕ). y * p * z) (mul_comm c d) ∙ mul-mul-mul_comm y p d c ∙ ap (λ (z : ℕ). z * (p * c)) w
        ∙ ap (λ (z : ℕ). b * q * z) (mul_comm p c) ∙ mul-mul-mul_comm b q c p ∙ ap (λ (z : ℕ). b * c * z) (mul_comm q p)

pub lt-of-values : (x y : Float) (a c b d : ℕ) → 0 < c → 0 < d → HasValue x false a c → HasValue y false b d → lt x y ≡ ltb (a * d) (b * c)
unfolding lt
lt-of-values x y a c b d C D v w = of_values lt (ltb (a * d) (b * c)) false a c b d compared x y v w
  where
    compared : (m : ℕ) (e : ℤ) (n : ℕ) (g : ℤ) → m * up e * c ≡ a * down e → n * up g * d ≡ b * down g → ltb (m * up e * down g) (n * up g * down e) ≡ ltb (a * d) (b * c)
    compared m e n g v w =
        bool-ext (ltb (m * up e * down g) (n * up g * down e)) (ltb (a * d) (b * c))
        (λ t. lt→ltb (a * d) (b * c) (crossed (m * up e) (down e) (n * up g) (down g) a c b d C D v w (ltb→lt (m * up e * down g) (n * up g * down e) t)))
        (λ t. lt→ltb (m * up e * down g) (n * up g * down e) (crossed a c b d (m * up e) (down e) (n * up g) (down g) (down_pos e) (down_pos g) (sym v) (sym w) (ltb→lt (a * d) (b * c) t)))

-- two that have one value are equal
pub eq-of-value : (x y : Float) (a c : ℕ) → 0 < c → HasValue x false a c → HasValue y false a c → eq x y ≡ true
unfolding eq
eq-of-value x y a c C v w = of_values eq true false a c a c same x y v w
  where
    same : (m : ℕ) (e : ℤ) (n : ℕ) (p : ℤ) → m * up e * c ≡ a * down e → n * up p * c ≡ a * down p → eq (fin false m e) (fin false n p) ≡ true
    same m e n p v w = ap (λ (t : Bool). t && true) (eq-eqb (m * up e * down p) (n * up p * down e) (cross (m * up e) (n * up p) (down e) (down p) a c C v w))

-- what equals a value above 0 has it; a 0 equals one of the other sign
pub value-of-eq : (x y : Float) (a c : ℕ) → 0 < a → 0 < c → HasValue x false a c → eq x y ≡ true → HasValue y false a c
unfolding eq
value-of-eq x y a c A C v = plain (λ (x : Float). HasValue x false a c → eq x y ≡ true → HasValue y false a c) (λ m e v. equal m e v y) x (of-value x a c v) v
  where
    carried : (x p y q : ℕ) → 0 < p → x * c ≡ a * p → x * q ≡ y * p → y * c ≡ a * q
    carried x p y q P v h =
        eq_of_mul-eq-mul_right p P (y * c) (a * q)
        (mul_right_comm y c p ∙ ap (λ (z : ℕ). z * c) (sym h) ∙ mul_right_comm x q c ∙ ap (λ (z : ℕ). z * q) v ∙ mul_right_comm a p q)

    nothing : (x p q : ℕ) → 0 < p → 0 < q → x * c ≡ a * p → x * q ≡ 0 → ⊥
    nothing x p q P Q v h = lt_irrefl 0 (subst (λ (z : ℕ). 0 < z) (sym v ∙ ap (λ (z : ℕ). z * c) (factor-zero x q Q h) ∙ zero-mul c) (mul-pos A P))

    equal : (m : ℕ) (e : ℤ) → HasValue (fin false m e) false a c → (y : Float) → eq (fin false m e) y ≡ true → HasValue y false a c
    equal m e v nan h = absurd (true≢false (sym h))
    equal m e v (inf t) h = absurd (true≢false (sym h))
    equal m e v (fin true n d) h =
        let A = m * up e * down d in
        absurd (nothing (m * up e) (down e) (down d) (down_pos e) (down_pos d) v.1 (eqb→eq A 0 (and_r (eqb A (n * up d * down e)) (eqb A 0) (subst T (sym h) tt))))
    equal m e v (fin false n d) h =
        let A = m * up e * down d in
        (refl, carried (m * up e) (down e) (n * up d) (down d) (down_pos e) v.1 (eqb→eq A (n * up d * down e) (and_l (eqb A (n * up d * down e)) true (subst T (sym h) tt))))
