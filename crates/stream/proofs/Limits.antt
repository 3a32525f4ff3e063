-- What elapsed time and rate give, over 01's ranges: nothing is capped there, and the whole-number formulas hold. The rate is a parameter. Assumes nothing.
use Rattle.std.proofs.Common.{◌≡◌, ℕ, ◌+◌, ◌-◌, ◌*◌, ◌^◌, ◌<◌, ◌≤◌, min, Bool, true, false, T, ltb, pos, sym, refl, ap, ◌∙◌, subst, le_trans, le_of_eq, zero-lt-suc, mul-le-mul_left, mul-one, arith, lit≤, ltb-false, ltb-true}
use lib.Ieee.{Float, binary64, up, down, round, sub, mul, div, of_int}
use lib.Ieee.Fits.{down_pos}
use lib.Ieee.Exact.{HasValue}
use lib.Ieee.Back.{round_whole}
use lib.Ieee.Positive.{num, den, den_pos, positive}
use Rattle.double.specs.Whole.{most, floor_at, floor_of, ceil_at, ceil_of, round_at, rounded}
use Rattle.double.specs.Seconds.{seconds_of, nanos_at, nanos_of}
use Rattle.stream.specs.Elapsed.{per_datagram64, slack, two, plausible, jump_limit, restart_missing, account_time, covered_time, below_half}
use Rattle.double.proofs.Bounds.{Exact, UpTo, exact-small, mul-up-to, div-up-to, up-to-more, at-most, plain-up-to}
use Rattle.double.proofs.Plain.{plain}
use Rattle.double.proofs.Floors.{exact-fraction}
use Rattle.double.proofs.Wholes.{nat-plain}
use Rattle.double.proofs.Fractions.{ceil-le, round-le}
use Rattle.double.proofs.Signs.{round-sign}
use Rattle.double.proofs.Values.{floor-of-whole, nat-minus, sub-ge, sub-lt, div-of-values, lt-of-values}
use Rattle.double.proofs.Times.{exact-u64, count-up-to, seconds-up-to}

-- ---- the jump limit, at every rate up to 2 ^ 21 samples a second
pub rate-up-to : (rate : Float) → UpTo rate 2097152 → UpTo (div binary64 rate per_datagram64) 8812
rate-up-to rate r = div-up-to rate per_datagram64 8812 2097152 tt (exact-small 8812 (lit≤ tt)) r (lit≤ tt)

module _ (ns : ℕ) (rate : Float) (h : ns < 2 ^ 64) (r : UpTo rate 2097152) where
  pub product-up-to : UpTo (mul binary64 (seconds_of ns) (div binary64 rate per_datagram64)) 162552708780088
  product-up-to = mul-up-to (seconds_of ns) (div binary64 rate per_datagram64) 18446744074 8812 (exact-small 162552708780088 (lit≤ tt)) (seconds-up-to ns h) (rate-up-to rate r)

  plausible-up-to : UpTo (plausible ns rate) 325105417560176
  unfolding plausible
  plausible-up-to = mul-up-to (mul binary64 (seconds_of ns) (div binary64 rate per_datagram64)) slack 162552708780088 2 (exact-small 325105417560176 (lit≤ tt)) product-up-to (refl, lit≤ tt)

  ceil-small : ceil_at (num (plausible ns rate)) (den (plausible ns rate)) ≤ 325105417560176
  ceil-small = ceil-le (num (plausible ns rate)) (den (plausible ns rate)) 325105417560176 (den_pos (plausible ns rate)) (at-most (plausible ns rate) 325105417560176 plausible-up-to)

  -- the formula as it stands
  pub jump-plain : jump_limit ns rate ≡ ceil_at (num (plausible ns rate)) (den (plausible ns rate)) + 8192
  unfolding jump_limit
  jump-plain = joined (ceil_of (plausible ns rate)) (ceil_at (num (plausible ns rate)) (den (plausible ns rate))) (nat-plain ceil_at (plausible ns rate) (plain-up-to (plausible ns rate) 325105417560176 plausible-up-to)) ceil-small
    where
      joined : (v w : ℕ) → v ≡ min w most → w ≤ 325105417560176 → min (v + 8192) most ≡ w + 8192
      joined v w e h = omega arith

  pub jump-up-to : jump_limit ns rate ≤ 325105417568368
  jump-up-to = le_trans (le_of_eq jump-plain) (more (ceil_at (num (plausible ns rate)) (den (plausible ns rate))) ceil-small)
    where
      more : (v : ℕ) → v ≤ 325105417560176 → v + 8192 ≤ 325105417568368
      more v h = omega arith

-- ---- a restart's missing: the whole number less 238, while it is below 2 ^ 53, as at every rate up to 488,281 samples a second
less-of : (n : ℕ) → n ≤ 2 ^ 53 → floor_of (sub binary64 (round binary64 false n 1) per_datagram64) ≡ n - 238
less-of n h = go (ltb n 238) refl
  where
    nothing : n < 238 → 0 ≡ n - 238
    nothing l = omega arith

    go : (t : Bool) → ltb n 238 ≡ t → floor_of (sub binary64 (round binary64 false n 1) per_datagram64) ≡ n - 238
    go true l =
        ap floor_of (sub-lt binary64 (round binary64 false n 1) per_datagram64 n 238 (exact-small n h) (refl, refl) (ltb-true n 238 l))
        ∙ nat-minus floor_at (round binary64 true (238 - n) 1) (round-sign binary64 true (238 - n) 1)
        ∙ nothing (ltb-true n 238 l)
    go false l =
        ap floor_of (sub-ge binary64 (round binary64 false n 1) per_datagram64 n 238 (exact-small n h) (refl, refl) (ltb-false n 238 l))
        ∙ floor-of-whole (round binary64 false (n - 238) 1) (n - 238) (omega arith) (exact-small (n - 238) (omega arith))

less-datagram : (x : Float) → UpTo x (2 ^ 53) → floor_of (sub binary64 (rounded x) per_datagram64) ≡ round_at (num x) (den x) - 238
unfolding rounded
less-datagram x p =
    plain (λ (x : Float). UpTo x (2 ^ 53) → floor_of (sub binary64 (rounded x) per_datagram64) ≡ round_at (num x) (den x) - 238)
    (λ m e p. less-of (round_at (m * up e) (down e)) (round-le (m * up e) (down e) (2 ^ 53) (down_pos e) p.1)) x (plain-up-to x (2 ^ 53) p) p

module _ (ns : ℕ) (rate : Float) (h : ns < 2 ^ 64) (r : UpTo rate 488281) where
  pub samples-up-to : UpTo (mul binary64 (seconds_of ns) rate) 9007194643196794
  samples-up-to = mul-up-to (seconds_of ns) rate 18446744074 488281 (exact-small 9007194643196794 (lit≤ tt)) (seconds-up-to ns h) r

  pub restart-plain : restart_missing ns rate ≡ round_at (num (mul binary64 (seconds_of ns) rate)) (den (mul binary64 (seconds_of ns) rate)) - 238
  unfolding restart_missing
  restart-plain = less-datagram (mul binary64 (seconds_of ns) rate) (up-to-more (mul binary64 (seconds_of ns) rate) 9007194643196794 9007199254740992 (lit≤ tt) samples-up-to)

-- ---- below half the rate: in whole numbers, at a whole rate
pub half-plain : (n r : ℕ) (rate : Float) → n ≤ 2 ^ 53 → r < 2 ^ 53 → HasValue rate false r 1 → below_half n rate ≡ ltb (n * 2) r
unfolding below_half of_int
half-plain n r rate N R v =
    lt-of-values (of_int binary64 (pos n)) (div binary64 rate two) n 1 r 2 (zero-lt-suc 0) (zero-lt-suc 1) (round_whole binary64 false n N) (halved rate v)
    ∙ ap (ltb (n * 2)) (mul-one r)
  where
    halved : (x : Float) → HasValue x false r 1 → HasValue (div binary64 x two) false r 2
    halved x v =
        subst (λ (y : Float). HasValue y false r 2)
        (sym (div-of-values binary64 false x two r 1 2 1 (zero-lt-suc 0) (zero-lt-suc 1) v (refl, refl) ∙ ap (λ (z : ℕ). round binary64 false z 2) (mul-one r)))
        (exact-fraction binary64 false r 1 R (lit≤ tt))

-- ---- a time that comes off an elapsed time: the cap makes no difference there
nanos-less : (a : ℕ) (x : Float) (b : ℕ) → a ≤ most → UpTo x b → a - nanos_of x ≡ a - nanos_at (num x) (den x)
nanos-less a x b h p = cut a (nanos_at (num x) (den x)) (nanos_of x) h (nat-plain nanos_at x (plain-up-to x b p))
  where
    cut : (a v w : ℕ) → a ≤ most → w ≡ min v most → a - w ≡ a - v
    cut a v w h e = omega arith

exact-datagrams : Exact 4390325089542873284608
unfolding round
exact-datagrams = (refl, refl)

pub datagrams-up-to : (n : ℕ) → n ≤ most → UpTo (mul binary64 (of_int binary64 (pos n)) per_datagram64) 4390325089542873284608
datagrams-up-to n h = mul-up-to (of_int binary64 (pos n)) per_datagram64 18446744073709551616 238 exact-datagrams (count-up-to n h) (refl, lit≤ tt)

-- at every rate of one sample a second or more
module _ (a n : ℕ) (rate : Float) (h : a ≤ most) (k : n ≤ most) (p : T (positive rate)) (one : den rate ≤ num rate) where
  pub account-less : let x = div binary64 (of_int binary64 (pos n)) rate in a - account_time n rate ≡ a - nanos_at (num x) (den x)
  unfolding account_time
  account-less = nanos-less a (div binary64 (of_int binary64 (pos n)) rate) 18446744073709551616 h (div-up-to (of_int binary64 (pos n)) rate 18446744073709551616 18446744073709551616 p exact-u64 (count-up-to n k) (mul-le-mul_left 18446744073709551616 one))

  pub covered-less : let x = div binary64 (mul binary64 (of_int binary64 (pos n)) per_datagram64) rate in a - covered_time n rate ≡ a - nanos_at (num x) (den x)
  unfolding covered_time
  covered-less =
      let x = mul binary64 (of_int binary64 (pos n)) per_datagram64 in
      nanos-less a (div binary64 x rate) 4390325089542873284608 h (div-up-to x rate 4390325089542873284608 4390325089542873284608 p exact-datagrams (datagrams-up-to n k) (mul-le-mul_left 4390325089542873284608 one))
