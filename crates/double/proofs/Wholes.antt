-- The whole numbers near a double, by the tests that code makes. Assumes nothing.
use Rattle.std.proofs.Common.{◌≡◌, ℕ, ◌+◌, ◌*◌, ◌/◌, ◌%◌, ◌<◌, ◌≤◌, min, Bool, true, false, cond, eqb, ltb, ℤ, pos, sym, refl, ap, ◌∙◌, true≢false, zero-mul, arith, lit<, ltb-false}
use Prim.Native.Nat.{compare, Ordering}
use native.Mathlib.Nat.{zero-div, zero-mod}
use lib.Ieee.{Float, nan, inf, fin, up, down, lt}
use lib.Ieee.Fits.{up_pos, down_pos}
use lib.Ieee.Scale.{finite}
use lib.Ieee.Positive.{num, den}
use Rattle.double.specs.Parts.{SplitOf, NearOf}
use Rattle.double.specs.Whole.{most, nat_of, floor_at, ceil_at, away, round_at, is_whole}
use Rattle.double.proofs.Orders.{away-lt}
use Rattle.double.proofs.Zeros.{factor-zero, zero-side}
use Rattle.double.proofs.Plain.{Plain, plain}

pub below-zero : (m : ℕ) (e : ℤ) → ltb (0 * 1 * down e) (m * up e * 1) ≡ false → m ≡ 0
below-zero m e h = factor-zero m (up e) (up_pos e) (none (m * up e) (0 * 1 * down e) (zero-side (down e)) (ltb-false (0 * 1 * down e) (m * up e * 1) h))
  where
    none : (a z : ℕ) → z ≡ 0 → a * 1 ≤ z → a ≡ 0
    none a z e h = omega arith

pub nat-none : (g : ℕ → ℕ → ℕ) → ((c : ℕ) → 0 < c → g 0 c ≡ 0) → (x : Float) → lt (fin false 0 (pos 0)) x ≡ false → nat_of g x ≡ 0
unfolding nat_of lt
nat-none g z nan h = refl
nat-none g z (inf true) h = refl
nat-none g z (inf false) h = absurd (true≢false h)
nat-none g z (fin true m e) h = refl
nat-none g z (fin false m e) h =
    ap (λ (k : ℕ). min (g (k * up e) (down e)) most) (below-zero m e h) ∙ ap (λ (k : ℕ). min (g k (down e)) most) (zero-mul (up e)) ∙ ap (λ (k : ℕ). min k most) (z (down e) (down_pos e))

pub nat_over : (g : ℕ → ℕ → ℕ) (x : Float) → lt (fin false 0 (pos 0)) x ≡ true → finite x ≡ false → nat_of g x ≡ most
unfolding nat_of lt
nat_over g nan h f = absurd (true≢false (sym h))
nat_over g (inf true) h f = absurd (true≢false (sym h))
nat_over g (inf false) h f = refl
nat_over g (fin s m e) h f = absurd (true≢false f)

-- of what is finite and not negative: cut short at the largest u64
pub nat-plain : (g : ℕ → ℕ → ℕ) (x : Float) → Plain x → nat_of g x ≡ min (g (num x) (den x)) most
unfolding nat_of
nat-plain g x p = plain (λ (x : Float). nat_of g x ≡ min (g (num x) (den x)) most) (λ m e. refl) x p

pub plain-above : (x : Float) → lt (fin false 0 (pos 0)) x ≡ true → finite x ≡ true → Plain x
unfolding lt
plain-above nan h f = absurd (true≢false (sym f))
plain-above (inf s) h f = absurd (true≢false (sym f))
plain-above (fin true m e) h f = absurd (true≢false (sym h))
plain-above (fin false m e) h f = refl

pub whole-at : (x : Float) → finite x ≡ true → is_whole x ≡ eqb (num x % den x) 0
unfolding is_whole
whole-at nan f = absurd (true≢false (sym f))
whole-at (inf s) f = absurd (true≢false (sym f))
whole-at (fin s m e) f = refl

pub whole-none : (x : Float) → finite x ≡ false → is_whole x ≡ false
unfolding is_whole
whole-none nan f = refl
whole-none (inf s) f = refl
whole-none (fin s m e) f = absurd (true≢false f)

-- ---- nothing of nothing
pub floor-zero : (c : ℕ) → 0 < c → floor_at 0 c ≡ 0
floor-zero c C = zero-div c

pub ceil-zero : (c : ℕ) → 0 < c → ceil_at 0 c ≡ 0
ceil-zero c C = ap (λ (z : ℕ). z + cond (eqb (0 % c) 0) 0 1) (zero-div c) ∙ ap (λ (z : ℕ). 0 + cond (eqb z 0) 0 1) (zero-mod c)

pub round-zero : (c : ℕ) → 0 < c → round_at 0 c ≡ 0
round-zero c C =
    ap (λ (z : ℕ). away z (compare (0 % c * 2) c)) (zero-div c)
    ∙ ap (λ (z : ℕ). away 0 (compare (z * 2) c)) (zero-mod c)
    ∙ away-lt (0 * 2) c 0 C

-- ---- the whole numbers near x, by what `near` returns
pub near-split : (x : Float) (w r u : ℕ) → lt (fin false 0 (pos 0)) x ≡ true → finite x ≡ true → SplitOf x w r u → NearOf x w r u
near-split x w r u h f s =
    let p = plain-above x h f in
    record {
      floors = nat-plain floor_at x p ∙ sym s.cut;
      ceils = nat-plain ceil_at x p ∙ ap (λ (z : Bool). min (num x / den x + cond z 0 1) most) (sym s.none) ∙ added (num x / den x) w (cond (eqb r 0) 0 1) s.cut;
      rounds = nat-plain round_at x p ∙ ap (λ (o : Ordering). min (away (num x / den x) o) most) (sym s.half) ∙ chosen (num x / den x) w s.cut (compare (r * 2) u);
      room = s.room;
    }
  where
    added : (q w k : ℕ) → w ≡ min q most → min (q + k) most ≡ min (w + k) most
    added q w k e = omega arith

    chosen : (q w : ℕ) → w ≡ min q most → (o : Ordering) → min (away q o) most ≡ min (away w o) most
    chosen q w e Ordering.lt = omega arith
    chosen q w e Ordering.eq = omega arith
    chosen q w e Ordering.gt = omega arith

pub near-over : (x : Float) → lt (fin false 0 (pos 0)) x ≡ true → finite x ≡ false → NearOf x most 0 1
near-over x h f = record { floors = nat_over floor_at x h f; ceils = nat_over ceil_at x h f; rounds = nat_over round_at x h f; room = lit< tt }

pub near_none : (x : Float) → lt (fin false 0 (pos 0)) x ≡ false → NearOf x 0 0 1
near_none x h = record { floors = nat-none floor_at floor-zero x h; ceils = nat-none ceil_at ceil-zero x h; rounds = nat-none round_at round-zero x h; room = lit< tt }
