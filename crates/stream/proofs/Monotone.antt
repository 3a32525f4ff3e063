-- What rises with an elapsed time or with a count: none of the stream's figures ever falls. Assumes nothing.
use Rattle.std.proofs.Common.{ℕ, ◌+◌, ◌-◌, ◌^◌, ◌<◌, ◌≤◌, min, T, pos, sym, refl, le_trans, le_of_eq, lt_of_le_of_lt, arith}
use lib.Ieee.{Float, binary64, mul, div, le, of_int}
use lib.Ieee.Positive.{num, den, den_pos, positive}
use Rattle.double.specs.Whole.{most, ceil_at, ceil_of, round_at}
use Rattle.stream.specs.Elapsed.{per_datagram64, slack, plausible, jump_limit, restart_missing, account_time, covered_time}
use Rattle.double.proofs.Fractions.{ceil-rising, round-rising, nanos-rising}
use Rattle.double.proofs.Wholes.{ceil-zero}
use Rattle.double.proofs.Nanos.{nanos-zero}
use Rattle.double.proofs.Bounds.{UpTo, plain-up-to}
use Rattle.double.proofs.Plain.{Plain}
use Rattle.stream.proofs.Limits.{datagrams-up-to, rate-up-to, product-up-to, samples-up-to, restart-plain}
use Rattle.double.specs.Seconds.{seconds_of, nanos_at, nanos_of}
use Rattle.double.proofs.Times.{seconds-up-to}
use Rattle.double.proofs.Monotone.{le-fraction, plain-nat, nat-rising, mul-rising, div-rising, of-nat-rising, seconds-rising}

-- ---- the stream's figures, with elapsed time
module _ (a b : ℕ) (rate : Float) (h : a ≤ b) (l : b < 2 ^ 64) where
  first : a < 2 ^ 64
  first = lt_of_le_of_lt h l

  plain-seconds : (ns : ℕ) → ns < 2 ^ 64 → Plain (seconds_of ns)
  plain-seconds ns h = plain-up-to (seconds_of ns) 18446744074 (seconds-up-to ns h)

  -- at the same factor
  timed : (q : Float) → Plain q → T (le (mul binary64 (seconds_of a) q) (mul binary64 (seconds_of b) q))
  timed q Q = mul-rising (seconds_of a) (seconds_of b) q (plain-seconds a first) (plain-seconds b l) (seconds-rising a b h l) Q

  pub jump-rising : UpTo rate 2097152 → jump_limit a rate ≤ jump_limit b rate
  unfolding jump_limit plausible
  jump-rising r =
      let q = div binary64 rate per_datagram64 in
      added (ceil_of (plausible a rate)) (ceil_of (plausible b rate))
      (nat-rising ceil_at ceil-zero ceil-rising (plausible a rate) (plausible b rate)
      (mul-rising (mul binary64 (seconds_of a) q) (mul binary64 (seconds_of b) q) slack (plain-product a first) (plain-product b l) (timed q (plain-up-to q 8812 (rate-up-to rate r))) refl))
    where
      added : (v w : ℕ) → v ≤ w → min (v + 8192) most ≤ min (w + 8192) most
      added v w h = omega arith

      plain-product : (ns : ℕ) → ns < 2 ^ 64 → Plain (mul binary64 (seconds_of ns) (div binary64 rate per_datagram64))
      plain-product ns k = plain-up-to (mul binary64 (seconds_of ns) (div binary64 rate per_datagram64)) 162552708780088 (product-up-to ns rate k r)

  pub restart-rising : UpTo rate 488281 → restart_missing a rate ≤ restart_missing b rate
  restart-rising r =
      let x = mul binary64 (seconds_of a) rate in
      let y = mul binary64 (seconds_of b) rate in
      le_trans (le_of_eq (restart-plain a rate first r))
      (le_trans (less (round_at (num x) (den x)) (round_at (num y) (den y))
      (round-rising (num x) (den x) (num y) (den y) (den_pos x) (den_pos y)
      (le-fraction x y (plain-samples a first) (plain-samples b l) (timed rate (plain-up-to rate 488281 r)))))
      (le_of_eq (sym (restart-plain b rate l r))))
    where
      less : (v w : ℕ) → v ≤ w → v - 238 ≤ w - 238
      less v w h = omega arith

      plain-samples : (ns : ℕ) → ns < 2 ^ 64 → Plain (mul binary64 (seconds_of ns) rate)
      plain-samples ns k = plain-up-to (mul binary64 (seconds_of ns) rate) 9007194643196794 (samples-up-to ns rate k r)

-- ---- the times, with a count, at every rate above 0
module _ (n k : ℕ) (rate : Float) (h : n ≤ k) (l : k ≤ most) (p : T (positive rate)) where
  nanos-up : (x y : Float) → T (le x y) → nanos_of x ≤ nanos_of y
  nanos-up x y = nat-rising nanos_at nanos-zero nanos-rising x y

  low : n ≤ most
  low = le_trans h l

  pub account-rising : account_time n rate ≤ account_time k rate
  unfolding account_time
  account-rising =
      let x = of_int binary64 (pos n) in
      let y = of_int binary64 (pos k) in
      nanos-up (div binary64 x rate) (div binary64 y rate) (div-rising x y rate (plain-nat n low) (plain-nat k l) (of-nat-rising n k h) p)

  pub covered-rising : covered_time n rate ≤ covered_time k rate
  unfolding covered_time
  covered-rising =
      let x = mul binary64 (of_int binary64 (pos n)) per_datagram64 in
      let y = mul binary64 (of_int binary64 (pos k)) per_datagram64 in
      nanos-up (div binary64 x rate) (div binary64 y rate)
      (div-rising x y rate (plain-up-to x 4390325089542873284608 (datagrams-up-to n low)) (plain-up-to y 4390325089542873284608 (datagrams-up-to k l))
      (mul-rising (of_int binary64 (pos n)) (of_int binary64 (pos k)) per_datagram64 (plain-nat n low) (plain-nat k l) (of-nat-rising n k h) refl) p)
