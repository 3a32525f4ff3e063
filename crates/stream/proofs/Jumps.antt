-- The jump limit at a whole rate: the whole-number formula, to within a part in 2 ^ 50, uncut; it never falls as time passes. Assumes nothing.
use Rattle.std.proofs.Common.{◌≡◌, ℕ, ◌+◌, ◌*◌, ◌^◌, ◌<◌, ◌≤◌, min, false, refl, le_trans, lt_of_le_of_lt, mul-le-mul_right, arith, lit<, lit≤}
use lib.Ieee.{Float, binary64, mul, div}
use lib.Ieee.Exact.{HasValue}
use lib.Ieee.Positive.{num, den}
use Rattle.double.specs.Whole.{most, ceil_at, ceil_of}
use Rattle.double.specs.Seconds.{seconds_of}
use Rattle.double.specs.Between.{Between, parts, one_part_more}
use Rattle.double.proofs.Fractions.{ceil-le, ceil-rising}
use Rattle.double.proofs.Wholes.{nat-plain, ceil-zero}
use Rattle.double.proofs.Monotone.{nat-rising, mul-rising, seconds-rising}
use Rattle.double.proofs.Nears.{seconds-near, near-between}
use Rattle.stream.specs.Elapsed.{per_datagram64, slack, plausible, jump_limit}
use Rattle.stream.specs.Rated.{Limit}
use Rattle.stream.proofs.Nearness.{product_le, datagrams-near, product-near, plausible-near}

module _ (rate : Float) (r : ℕ) (v : HasValue rate false r 1) (some : 0 < r) (few : r ≤ 1000000000) where
  module _ (ns : ℕ) (h : ns < 2 ^ 64) where
    abbrev lost : ℕ
    lost = ceil_at (num (plausible ns rate)) (den (plausible ns rate))

    lost-near : Between ceil_at lost (ns * r * 101) 23800000000000
    lost-near = near-between 6 (plausible ns rate) (ns * r * 101) 23800000000000 (lit≤ tt) (lit< tt) (plausible-near rate r v some few ns h) ceil_at ceil-rising

    lost-le : lost ≤ 9223372036854775808
    lost-le =
        le_trans lost-near.most
        (ceil-le (ns * r * 101 * one_part_more) (23800000000000 * parts) 9223372036854775808 (lit< tt)
        (le_trans (mul-le-mul_right one_part_more (mul-le-mul_right 101 (product_le rate r v some few ns h))) (lit≤ tt)))

    pub limit : Limit rate r ns
    unfolding jump_limit
    limit =
        record {
          lost = lost;
          near = lost-near;
          is = uncut (ceil_of (plausible ns rate)) lost (nat-plain ceil_at (plausible ns rate) (plausible-near rate r v some few ns h).plain) lost-le;
        }
      where
        uncut : (v w : ℕ) → v ≡ min w most → w ≤ 9223372036854775808 → min (v + 8192) most ≡ w + 8192
        uncut v w e h = omega arith

  pub limit-rises : (ns later : ℕ) → ns ≤ later → later < 2 ^ 64 → jump_limit ns rate ≤ jump_limit later rate
  unfolding jump_limit plausible
  limit-rises ns later h l =
      let first = lt_of_le_of_lt h l in
      let q = div binary64 rate per_datagram64 in
      added (ceil_of (plausible ns rate)) (ceil_of (plausible later rate))
      (nat-rising ceil_at ceil-zero ceil-rising (plausible ns rate) (plausible later rate)
      (mul-rising (mul binary64 (seconds_of ns) q) (mul binary64 (seconds_of later) q) slack (product-near rate r v some few ns first).plain (product-near rate r v some few later l).plain
      (mul-rising (seconds_of ns) (seconds_of later) q (seconds-near ns first).plain (seconds-near later l).plain (seconds-rising ns later h l) (datagrams-near rate r v some few).plain)
      refl))
    where
      added : (v w : ℕ) → v ≤ w → min (v + 8192) most ≤ min (w + 8192) most
      added v w h = omega arith
