-- 24-bit samples in f32: nothing is rounded, no two are alike, and the code's cast, difference and quotient give them. Assumes nothing.
use mathlib.Core.Path.{◌≡◌, refl, sym, ap, ◌∙◌, subst}
use Prim.Native.Nat.{ℕ, ◌+◌, ◌-◌, ◌%◌, ◌≤◌, ◌<◌}
use native.Mathlib.Nat.{mul-one, zero-lt-suc, eq_of_mul-eq-mul_right}
use native.Mathlib.Omega.{arith}
use mathlib.Core.Bool.{Bool, true, false, not}
use borrow.Author.Tests.{le-leb, lt-leb}
use lib.IntN.{pos}
use lib.Dec.{T, lit≤, ltb, ltb→lt, nltb→le}
use lib.Ieee.{Float, nan, inf, fin, binary32, down, round, sub, div, of_int, in_float}
use lib.Ieee.Exact.{HasValue}
use lib.Ieee.Back.{round_whole}
use lib.Ieee.Fits.{down_pos}
use Rattle.base.proofs.Picks.{pick-t, pick-f}
use Rattle.double.proofs.Floors.{exact-fraction}
use Rattle.double.proofs.Values.{sub-ge, sub-lt, div-of-values}
use Rattle.iq.specs.Iq.{minus, magnitude, sample_of}

-- 2 ^ 23
abbrev full : Float
full = fin false 1 (pos 23)

-- ---- the sign and the size of the number with the bits v

module _ (v : ℕ) where
  minus-low : v < 8388608 → minus v ≡ false
  minus-low h = lt-leb 8388608 v h

  minus-high : 8388608 ≤ v → minus v ≡ true
  minus-high h = le-leb 8388608 v h

  magnitude-low : v < 8388608 → magnitude v ≡ v
  unfolding magnitude
  magnitude-low h = pick-f (minus v) (16777216 - v) v (minus-low h)

  magnitude-high : 8388608 ≤ v → magnitude v ≡ 16777216 - v
  unfolding magnitude
  magnitude-high h = pick-t (minus v) (16777216 - v) v (minus-high h)

  sample-low : v < 8388608 → sample_of v ≡ round binary32 false v 8388608
  unfolding sample_of
  sample-low h = rw (minus-low h, magnitude-low h)

  sample-high : 8388608 ≤ v → sample_of v ≡ round binary32 true (16777216 - v) 8388608
  unfolding sample_of
  sample-high h = rw (minus-high h, magnitude-high h)

-- 24-bit numbers fall below 2 ^ 23 or not
halves : {A : Type 0} (v : ℕ) → (v < 8388608 → A) → (8388608 ≤ v → A) → A
halves {A} v l h = go (ltb v 8388608) (ltb→lt v 8388608) (nltb→le v 8388608)
  where
    go : (b : Bool) → (T b → v < 8388608) → (T (not b) → 8388608 ≤ v) → A
    go true y n = l (y tt)
    go false y n = h (n tt)

-- ---- a sample is exactly its number over 2 ^ 23

exact-23 : (s : Bool) (q : ℕ) → q ≤ 8388608 → HasValue (round binary32 s q 8388608) s q 8388608
exact-23 s q h = exact-fraction binary32 s q 23 (small q h) (lit≤ tt)
  where
    small : (q : ℕ) → q ≤ 8388608 → q < 16777216
    small q h = omega arith

pub sample-exact : (v : ℕ) → v < 16777216 → HasValue (sample_of v) (minus v) (magnitude v) 8388608
sample-exact v h =
    halves v
    (λ l. rw (sample-low v l, minus-low v l, magnitude-low v l) (exact-23 false v (omega arith)))
    (λ g. rw (sample-high v g, minus-high v g, magnitude-high v g) (exact-23 true (16777216 - v) (omega arith)))

-- ---- so that different bits are different samples

-- a float has one value over a number
value-once : (x : Float) (s t : Bool) (a b c : ℕ) → HasValue x s a c → HasValue x t b c → (s ≡ t) × (a ≡ b)
value-once nan s t a b c v w = absurd v
value-once (inf u) s t a b c v w = absurd v
value-once (fin u m e) s t a b c v w = (sym v.0 ∙ w.0, eq_of_mul-eq-mul_right (down e) (down_pos e) a b (sym v.1 ∙ w.1))

same_bits : (u v : ℕ) → u < 16777216 → v < 16777216 → minus u ≡ minus v → magnitude u ≡ magnitude v → u ≡ v
same_bits u v h k s m =
    halves u
    (λ a. halves v (λ b. omega (arith, magnitude-low u a, magnitude-low v b)) (λ b. clash (minus-low u a) (minus-high v b) s))
    (λ a. halves v (λ b. clash (minus-low v b) (minus-high u a) (sym s)) (λ b. omega (arith, magnitude-high u a, magnitude-high v b)))
  where
    clash : {p q : Bool} → p ≡ false → q ≡ true → p ≡ q → u ≡ v
    clash a b e = let z : ◌≡◌ {A = ℕ} 0 1 = cc in absurd (omega arith)

pub sample-once : (u v : ℕ) → u < 16777216 → v < 16777216 → sample_of u ≡ sample_of v → u ≡ v
sample-once u v h k e =
    let o = value-once (sample_of u) (minus u) (minus v) (magnitude u) (magnitude v) 8388608 (sample-exact u h) (subst (λ (x : Float). HasValue x (minus v) (magnitude v) 8388608) (sym e) (sample-exact v k)) in
    same_bits u v h k o.0 o.1

-- ---- the code's steps

-- a whole number over 2 ^ 23
over : (x : Float) (s : Bool) (n : ℕ) → HasValue x s n 1 → div binary32 x full ≡ round binary32 s n 8388608
over x s n v =
    div-of-values binary32 s x full n 1 8388608 1 (zero-lt-suc 0) (zero-lt-suc 8388607) v (refl, refl)
    ∙ ap (λ (k : ℕ). round binary32 s k 8388608) (mul-one n)

whole : (n : ℕ) → n ≤ 16777216 → HasValue (of_int binary32 (pos n)) false n 1
unfolding of_int
whole n h = round_whole binary32 false n h

pub in-f32 : (n : ℕ) → n ≤ 16777216 → T (in_float binary32 (pos n))
unfolding in_float
in-f32 n h = rw (le-leb n 16777216 h) tt

-- n, the number offset by 2 ^ 23, less 2 ^ 23, over 2 ^ 23
offset-low : (v n : ℕ) → v < 8388608 → n ≡ (v + 8388608) % 16777216 → div binary32 (sub binary32 (of_int binary32 (pos n)) full) full ≡ sample_of v
offset-low v n h e =
    let d : n - 8388608 ≡ v = omega arith in
    ap (λ (x : Float). div binary32 x full)
    (sub-ge binary32 (of_int binary32 (pos n)) full n 8388608 (whole n (omega arith)) (refl, refl) (omega arith) ∙ ap (λ (k : ℕ). round binary32 false k 1) d)
    ∙ over (round binary32 false v 1) false v (round_whole binary32 false v (omega arith))
    ∙ sym (sample-low v h)

offset-high : (v n : ℕ) → 8388608 ≤ v → v < 16777216 → n ≡ (v + 8388608) % 16777216
    → div binary32 (sub binary32 (of_int binary32 (pos n)) full) full ≡ sample_of v
offset-high v n h l e =
    let d : 8388608 - n ≡ 16777216 - v = omega arith in
    ap (λ (x : Float). div binary32 x full)
    (sub-lt binary32 (of_int binary32 (pos n)) full n 8388608 (whole n (omega arith)) (refl, refl) (omega arith) ∙ ap (λ (k : ℕ). round binary32 true k 1) d)
    ∙ over (round binary32 true (16777216 - v) 1) true (16777216 - v) (round_whole binary32 true (16777216 - v) (omega arith))
    ∙ sym (sample-high v h)

pub sample-is : (v : ℕ) → v < 16777216
    → div binary32 (sub binary32 (of_int binary32 (pos ((v + 8388608) % 16777216))) full) full ≡ sample_of v
sample-is v h =
    halves v
    (λ l. offset-low v ((v + 8388608) % 16777216) l refl)
    (λ g. offset-high v ((v + 8388608) % 16777216) g h refl)
