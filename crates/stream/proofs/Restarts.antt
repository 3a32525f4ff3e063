-- A restart's missing at a whole rate: the samples of the time less a datagram's, as the nearest double has it. While time × rate stays
-- within 2 ^ 53 that is the whole number; past it the result is at most half a unit away. It never falls as time passes. Assumes nothing.
use Rattle.std.proofs.Common.{◌≡◌, ℕ, ◌+◌, ◌-◌, ◌*◌, ◌/◌, ◌^◌, ◌<◌, ◌≤◌, Bool, true, false, T, ltb, pos, sym, refl, ap, ◌∙◌, subst, le_trans, le_of_eq, lt_of_le_of_lt, arith, lit<, lit≤, pow_pos, ltb-false, ltb-true}
use lib.Ieee.{Float, binary64, fits, round, sub, mul, of_int}
use lib.Ieee.Back.{round_whole}
use lib.Ieee.Exact.{HasValue}
use lib.Ieee.Fits.{mul-fits}
use lib.Ieee.Positive.{num, den, den_pos}
use Rattle.double.specs.Whole.{floor_at, floor_of, round_at, rounded}
use Rattle.double.specs.Seconds.{seconds_of}
use Rattle.double.proofs.Bounds.{Exact, exact-small, exact-power, mul-within, at-most, whole-up-to}
use Rattle.double.proofs.Fractions.{floor-rising, round-rising, round-le}
use Rattle.double.proofs.Monotone.{le-fraction, nat-rising, mul-rising, of-nat-rising, seconds-rising}
use Rattle.double.proofs.Nears.{seconds-near, near-between, near-value}
use Rattle.double.proofs.Plain.{Plain, plain}
use Rattle.double.proofs.Rounded.{rounded-exact}
use Rattle.double.proofs.Signs.{round-sign}
use Rattle.double.proofs.Times.{seconds-within}
use Rattle.double.proofs.Units.{floor-near}
use Rattle.double.proofs.Values.{floor-of-whole, nat-minus, sub-ge, sub-lt}
use Rattle.double.proofs.Wholes.{floor-zero}
use Rattle.stream.specs.Elapsed.{per_datagram64, restart_missing}
use Rattle.stream.specs.Rated.{Outage}
use Rattle.stream.proofs.Nearness.{samples-near}

-- ---- 238 off a whole double
less-datagram : (y : Float) (n : ℕ) → HasValue y false n 1 → floor_of (sub binary64 y per_datagram64) ≡ floor_of (of_int binary64 (pos (n - 238)))
unfolding of_int
less-datagram y n v = go (ltb n 238) refl
  where
    none : n < 238 → 0 ≡ n - 238
    none l = omega arith

    go : (t : Bool) → ltb n 238 ≡ t → floor_of (sub binary64 y per_datagram64) ≡ floor_of (round binary64 false (n - 238) 1)
    go true l =
        ap floor_of (sub-lt binary64 y per_datagram64 n 238 v (refl, refl) (ltb-true n 238 l))
        ∙ nat-minus floor_at (round binary64 true (238 - n) 1) (round-sign binary64 true (238 - n) 1)
        ∙ sym (floor-of-whole (round binary64 false 0 1) 0 (lit≤ tt) (round_whole binary64 false 0 (lit≤ tt)))
        ∙ ap (λ (z : ℕ). floor_of (round binary64 false z 1)) (none (ltb-true n 238 l))
    go false l = ap floor_of (sub-ge binary64 y per_datagram64 n 238 v (refl, refl) (ltb-false n 238 l))

rounded-plain : (x : Float) → Plain x → T (fits binary64 x) → HasValue (rounded x) false (round_at (num x) (den x)) 1
rounded-plain x = plain (λ (x : Float). T (fits binary64 x) → HasValue (rounded x) false (round_at (num x) (den x)) 1) (λ m e t. rounded-exact false m e t) x

module _ (rate : Float) (r : ℕ) (v : HasValue rate false r 1) (some : 0 < r) (few : r ≤ 1000000000) where
  module _ (ns : ℕ) (h : ns < 2 ^ 64) where
    abbrev x : Float
    x = mul binary64 (seconds_of ns) rate

    abbrev pub samples : ℕ
    samples = round_at (num x) (den x)

    samples-le : (t : ℕ) → Exact t → (ns / 1000000000 + 1) * r ≤ t → samples ≤ t
    samples-le t E l =
        round-le (num x) (den x) t (den_pos x)
        (at-most x t (mul-within (seconds_of ns) rate (ns / 1000000000 + 1) r t E l (seconds-within ns h) (whole-up-to rate r r v (le_of_eq refl))))

    pub restart-is : restart_missing ns rate ≡ floor_of (of_int binary64 (pos (samples - 238)))
    unfolding restart_missing
    restart-is = less-datagram (rounded x) samples (rounded-plain x (samples-near rate r v some few ns h).plain (mul-fits binary64 (seconds_of ns) rate))

    restart-plain : samples ≤ 2 ^ 53 → restart_missing ns rate ≡ samples - 238
    unfolding of_int
    restart-plain l = restart-is ∙ floor-of-whole (round binary64 false (samples - 238) 1) (samples - 238) (room samples l) (round_whole binary64 false (samples - 238) (less samples l))
      where
        less : (n : ℕ) → n ≤ 9007199254740992 → n - 238 ≤ 9007199254740992
        less n h = omega arith

        room : (n : ℕ) → n ≤ 9007199254740992 → n - 238 ≤ 18446744073709551615
        room n h = omega arith

    module _ (j : ℕ) (J : j ≤ 9) (l : (ns / 1000000000 + 1) * r ≤ 2 ^ (54 + j)) where
      restart-near : (floor_of (of_int binary64 (pos (samples - 238))) ≤ samples - 238 + 2 ^ j) × (samples - 238 ≤ floor_of (of_int binary64 (pos (samples - 238))) + 2 ^ j)
      restart-near = floor-near (samples - 238) j J (less samples (2 ^ (54 + j)) (samples-le (2 ^ (54 + j)) (exact-power (54 + j) (small j J)) l) (pow_pos (54 + j)))
        where
          small : (j : ℕ) → j ≤ 9 → 54 + j < 1024
          small j h = omega arith

          less : (n t : ℕ) → n ≤ t → 0 < t → n - 238 < t
          less n t h p = omega arith

    pub outage : Outage rate r ns
    outage =
        record {
          samples = samples;
          near = near-between 3 x (ns * r) 1000000000 (lit≤ tt) (lit< tt) (samples-near rate r v some few ns h) round_at round-rising;
          is = restart-is;
          plain = λ l. restart-plain (samples-le (2 ^ 53) (exact-small (2 ^ 53) (lit≤ tt)) l);
          least = λ j J l. subst (λ (z : ℕ). samples - 238 ≤ z + 2 ^ j) (sym restart-is) (restart-near j J l).1;
          most = λ j J l. subst (λ (z : ℕ). z ≤ samples - 238 + 2 ^ j) (sym restart-is) (restart-near j J l).0;
        }

  pub restart-rises : (ns later : ℕ) → ns ≤ later → later < 2 ^ 64 → restart_missing ns rate ≤ restart_missing later rate
  restart-rises ns later h l =
      let first = lt_of_le_of_lt h l in
      let y = mul binary64 (seconds_of ns) rate in
      let z = mul binary64 (seconds_of later) rate in
      let risen = mul-rising (seconds_of ns) (seconds_of later) rate (seconds-near ns first).plain (seconds-near later l).plain (seconds-rising ns later h l) (near-value rate r 1 v).plain in
      le_trans (le_of_eq (restart-is ns first))
      (le_trans (nat-rising floor_at floor-zero floor-rising (of_int binary64 (pos (samples ns first - 238))) (of_int binary64 (pos (samples later l - 238)))
      (of-nat-rising (samples ns first - 238) (samples later l - 238)
      (less (samples ns first) (samples later l)
      (round-rising (num y) (den y) (num z) (den z) (den_pos y) (den_pos z)
      (le-fraction y z (samples-near rate r v some few ns first).plain (samples-near rate r v some few later l).plain risen)))))
      (le_of_eq (sym (restart-is later l))))
    where
      less : (v w : ℕ) → v ≤ w → v - 238 ≤ w - 238
      less v w h = omega arith
