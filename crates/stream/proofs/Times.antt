-- An account and what waits, as time, at a whole rate: the whole-number formula to within a part in 2 ^ 50; more samples take no less time;
-- and where the time comes off an elapsed one, that it stays at 2 ^ 64 - 1 makes no difference. Assumes nothing.
use Rattle.std.proofs.Common.{◌≡◌, ℕ, ◌-◌, ◌*◌, ◌^◌, ◌<◌, ◌≤◌, min, false, T, pos, refl, lt_of_le_of_lt, arith, lit≤}
use lib.Ieee.{Float, binary64, mul, div, le, of_int}
use lib.Ieee.Exact.{HasValue}
use lib.Ieee.Positive.{num, den}
use Rattle.double.specs.Whole.{most}
use Rattle.double.specs.Seconds.{nanos_at, nanos_of}
use Rattle.double.proofs.Fractions.{nanos-rising}
use Rattle.double.proofs.Monotone.{nat-rising, mul-rising, div-rising, of-nat-rising}
use Rattle.double.proofs.Nanos.{nanos-zero}
use Rattle.double.proofs.Nears.{Near, near-whole, near-between}
use Rattle.double.proofs.Wholes.{nat-plain}
use Rattle.stream.specs.Elapsed.{per_datagram64, account_time, covered_time}
use Rattle.stream.specs.Rated.{Time}
use Rattle.stream.proofs.Nearness.{rate-positive, account-near, total-near, covered-near}

-- the nanoseconds of a double that lies near n / r
time-of : (k : ℕ) (x : Float) (n r : ℕ) → k ≤ 6 → 0 < r → Near k x n r → Time (nanos_of x) n r
time-of k x n r few some h =
    record {
      nanos = nanos_at (num x) (den x);
      near = near-between k x n r few some h nanos_at nanos-rising;
      is = nat-plain nanos_at x h.plain;
    }

nanos-up : (x y : Float) → T (le x y) → nanos_of x ≤ nanos_of y
nanos-up x y = nat-rising nanos_at nanos-zero nanos-rising x y

module _ (rate : Float) (r : ℕ) (v : HasValue rate false r 1) (some : 0 < r) (few : r ≤ 1000000000) where
  pub account : (n : ℕ) → n < 2 ^ 64 → Time (account_time n rate) n r
  unfolding account_time
  account n h = time-of 2 (div binary64 (of_int binary64 (pos n)) rate) n r (lit≤ tt) some (account-near rate r v some few n h)

  pub covered : (n : ℕ) → n < 2 ^ 64 → Time (covered_time n rate) (n * 238) r
  unfolding covered_time
  covered n h = time-of 3 (div binary64 (mul binary64 (of_int binary64 (pos n)) per_datagram64) rate) (n * 238) r (lit≤ tt) some (covered-near rate r v some few n h)

  module _ (n more : ℕ) (h : n ≤ more) (l : more < 2 ^ 64) where
    first : n < 2 ^ 64
    first = lt_of_le_of_lt h l

    pub account-rises : account_time n rate ≤ account_time more rate
    unfolding account_time
    account-rises =
        let x = of_int binary64 (pos n) in
        let y = of_int binary64 (pos more) in
        nanos-up (div binary64 x rate) (div binary64 y rate) (div-rising x y rate (near-whole n first).plain (near-whole more l).plain (of-nat-rising n more h) (rate-positive rate r v some few))

    pub covered-rises : covered_time n rate ≤ covered_time more rate
    unfolding covered_time
    covered-rises =
        let x = mul binary64 (of_int binary64 (pos n)) per_datagram64 in
        let y = mul binary64 (of_int binary64 (pos more)) per_datagram64 in
        nanos-up (div binary64 x rate) (div binary64 y rate)
        (div-rising x y rate (total-near rate r v some few n first).plain (total-near rate r v some few more l).plain
        (mul-rising (of_int binary64 (pos n)) (of_int binary64 (pos more)) per_datagram64 (near-whole n first).plain (near-whole more l).plain (of-nat-rising n more h) refl)
        (rate-positive rate r v some few))

-- off an elapsed time
pub time-less : (a told n r : ℕ) → a ≤ most → (t : Time told n r) → a - told ≡ a - t.nanos
time-less a told n r h t = cut a told t.nanos h t.is
  where
    cut : (a v w : ℕ) → a ≤ most → v ≡ min w most → a - v ≡ a - w
    cut a v w h e = omega arith
