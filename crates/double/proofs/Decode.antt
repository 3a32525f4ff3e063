-- A double by its bits. Assumes nothing.
use Rattle.std.proofs.Common.{◌≡◌, ℕ, zero, suc, ◌+◌, ◌-◌, ◌*◌, ◌/◌, ◌%◌, ◌^◌, ◌<◌, ◌≤◌, Bool, true, false, cond, not, T, eqb, ltb, leb, sym, refl, ap, ◌∙◌, subst, true≢false, add_comm, arith, lit<, ltb-false, ltb-true, eq-eqb, ne_eqb}
use Rattle.std.specs.Float.{float_is_finite}
use lib.Ieee.{Float, nan, inf, fin, binary64, odd, of_fields, of_bits, to_bits, fits, is_nan, ne}
use lib.Ieee.Bits.{of_bits-to_bits, is_true}
use lib.Ieee.Exact.{HasValue, odd_sign}
use lib.Ieee.Scale.{finite}
use Rattle.double.specs.Parts.{PartsOf}

-- std's test, by what its method answers
pub finite_is : (x : Float) → float_is_finite x ≡ finite x
unfolding float_is_finite
finite_is nan = refl
finite_is (inf s) = refl
finite_is (fin s m e) = refl

pub tested : (x : Float) {r b : Bool} → r ≡ float_is_finite x → r ≡ b → finite x ≡ b
tested x v h = sym (v ∙ finite_is x) ∙ h

pub finite-no-nan : (x : Float) → T (finite x) → T (not (is_nan x))
unfolding is_nan
finite-no-nan nan t = absurd t
finite-no-nan (inf s) t = absurd t
finite-no-nan (fin s m e) t = tt

-- a value that does not differ from itself
pub same-no-nan : (x : Float) → ne x x ≡ false → T (not (is_nan x))
unfolding is_nan ne
same-no-nan nan h = absurd (true≢false h)
same-no-nan (inf s) h = tt
same-no-nan (fin s m e) h = tt

opened : (b : ℕ) → of_bits binary64 b ≡ of_fields binary64 (leb 9223372036854775808 b) (b % 9223372036854775808 / 4503599627370496) (b % 4503599627370496)
unfolding of_bits
opened b = refl

pub by-fields : (x : Float) → T (fits binary64 x) → x ≡ of_fields binary64 (leb 9223372036854775808 (to_bits binary64 x)) (to_bits binary64 x % 9223372036854775808 / 4503599627370496) (to_bits binary64 x % 4503599627370496)
by-fields x h = sym (of_bits-to_bits binary64 x h) ∙ opened (to_bits binary64 x)

odd-finite : (d : ℕ) (s : Bool) (q k l : ℕ) → finite (odd d s q k l) ≡ true
unfolding odd
odd-finite d s zero k l = refl
odd-finite d s (suc q) k l = refl

no_number : (b s : Bool) → finite (cond b (inf s) nan) ≡ false
no_number true s = refl
no_number false s = refl

by-test : (a b s : Bool) (v : Float) → finite v ≡ true → finite (cond a (cond b (inf s) nan) v) ≡ not a
by-test true b s v h = no_number b s
by-test false b s v h = h

-- an exponent's field below 2048 is that of a finite value where it is below 2047
pub fields-finite : (s : Bool) (e t : ℕ) → e < 2048 → ltb e 2047 ≡ finite (of_fields binary64 s e t)
unfolding of_fields
fields-finite s zero t h = sym (odd-finite 53 s t 0 1074)
fields-finite s (suc e) t h = flip (suc e) h ∙ sym (by-test (eqb (suc e) 2047) (eqb t 0) s (odd 53 s (4503599627370496 + t) e 1074) (odd-finite 53 s (4503599627370496 + t) e 1074))
  where
    top_one : (n : ℕ) → n < 2048 → 2047 ≤ n → n ≡ 2047
    top_one n a b = omega arith

    not_top : (n : ℕ) → n < 2047 → n ≡ 2047 → ⊥
    not_top n a b = omega arith

    flip : (n : ℕ) → n < 2048 → ltb n 2047 ≡ not (eqb n 2047)
    flip n l = go (ltb n 2047) refl
      where
        go : (b : Bool) → ltb n 2047 ≡ b → b ≡ not (eqb n 2047)
        go true q = sym (ap not (ne_eqb n 2047 (not_top n (ltb-true n 2047 q))))
        go false q = sym (ap not (eq-eqb n 2047 (top_one n l (ltb-false n 2047 q))))

pub parts_low : (s : Bool) (e t : ℕ) → e ≡ 0 → t < 2 ^ 52 → PartsOf (of_fields binary64 s e t) s t 0
unfolding of_fields
parts_low s zero t z h = record { value = odd_sign 53 s t 0 1074; small = wide t h; range = lit< tt; full = λ z. absurd (native.Mathlib.Nat.lt_irrefl 0 z) }
  where
    wide : (t : ℕ) → t < 4503599627370496 → t < 9007199254740992
    wide t h = omega arith
parts_low s (suc e) t z h = absurd (never e z)
  where
    never : (e : ℕ) → suc e ≡ 0 → ⊥
    never e z = omega arith

high_value : (s : Bool) (e t : ℕ) → T (finite (cond (eqb (suc e) 2047) (cond (eqb t 0) (inf s) nan) (odd 53 s (4503599627370496 + t) e 1074))) → HasValue (cond (eqb (suc e) 2047) (cond (eqb t 0) (inf s) nan) (odd 53 s (4503599627370496 + t) e 1074)) s ((t + 4503599627370496) * 2 ^ e) (2 ^ 1074)
high_value s e t = go (eqb (suc e) 2047) (eqb t 0)
  where
    go : (a b : Bool) → T (finite (cond a (cond b (inf s) nan) (odd 53 s (4503599627370496 + t) e 1074))) → HasValue (cond a (cond b (inf s) nan) (odd 53 s (4503599627370496 + t) e 1074)) s ((t + 4503599627370496) * 2 ^ e) (2 ^ 1074)
    go true true f = absurd f
    go true false f = absurd f
    go false b f = subst (λ (q : ℕ). HasValue (odd 53 s (4503599627370496 + t) e 1074) s (q * 2 ^ e) (2 ^ 1074)) (add_comm 4503599627370496 t) (odd_sign 53 s (4503599627370496 + t) e 1074)

pub parts-high : (s : Bool) (e t : ℕ) → (e ≡ 0 → ⊥) → e < 2048 → t < 2 ^ 52 → T (finite (of_fields binary64 s e t)) → PartsOf (of_fields binary64 s e t) s (t + 4503599627370496) (e - 1)
unfolding of_fields
parts-high s zero t z l h f = absurd (z refl)
parts-high s (suc e) t z l h f = record {
  value = subst (λ (k : ℕ). HasValue (cond (eqb (suc e) 2047) (cond (eqb t 0) (inf s) nan) (odd 53 s (4503599627370496 + t) e 1074)) s ((t + 4503599627370496) * 2 ^ k) (2 ^ 1074)) (one_less e) (high_value s e t f);
  small = wide t h;
  range = most (suc e) (ltb-true (suc e) 2047 (fields-finite s (suc e) t l ∙ is_true (finite (of_fields binary64 s (suc e) t)) f));
  full = λ z. enough t;
}
  where
    one_less : (e : ℕ) → e ≡ suc e - 1
    one_less e = omega arith

    wide : (t : ℕ) → t < 4503599627370496 → t + 4503599627370496 < 9007199254740992
    wide t h = omega arith

    most : (n : ℕ) → n < 2047 → n - 1 < 2046
    most n h = omega arith

    enough : (t : ℕ) → 4503599627370496 ≤ t + 4503599627370496
    enough t = omega arith

pub field_in : (b : ℕ) → b % 9223372036854775808 / 4503599627370496 < 2048
field_in b = omega arith

pub digits_in : (b : ℕ) → b % 4503599627370496 < 4503599627370496
digits_in b = omega arith

-- the two answers, of a value by its own bits
pub apart_low : (x : Float) → T (fits binary64 x) → let b = to_bits binary64 x in b % 9223372036854775808 / 4503599627370496 ≡ 0 → PartsOf x (leb 9223372036854775808 b) (b % 4503599627370496) 0
apart_low x h z =
    let b = to_bits binary64 x in
    subst (λ (y : Float). PartsOf y (leb 9223372036854775808 b) (b % 4503599627370496) 0) (sym (by-fields x h)) (parts_low (leb 9223372036854775808 b) (b % 9223372036854775808 / 4503599627370496) (b % 4503599627370496) z (digits_in b))

pub apart-high : (x : Float) → T (fits binary64 x) → T (finite x) → let b = to_bits binary64 x in (b % 9223372036854775808 / 4503599627370496 ≡ 0 → ⊥) → PartsOf x (leb 9223372036854775808 b) (b % 4503599627370496 + 4503599627370496) (b % 9223372036854775808 / 4503599627370496 - 1)
apart-high x h f z =
    let b = to_bits binary64 x in
    let e = b % 9223372036854775808 / 4503599627370496 in
    let t = b % 4503599627370496 in
    let s = leb 9223372036854775808 b in
    subst (λ (y : Float). PartsOf y s (t + 4503599627370496) (e - 1)) (sym (by-fields x h)) (parts-high s e t z (field_in b) (digits_in b) (subst (λ (y : Float). T (finite y)) (by-fields x h) f))
