-- How near the stream's doubles lie to the fractions that they stand for, at a whole rate of at most a sample a nanosecond. Assumes nothing.
use Rattle.std.proofs.Common.{ℕ, ◌*◌, ◌^◌, ◌<◌, ◌≤◌, false, T, pos, sym, refl, ap, subst, subst₂, le_trans, le_of_eq, le_of_lt, zero-lt-suc, mul-le-mul, mul-pos, one-mul, mul-one, lit<, lit≤}
use lib.Ieee.{Float, binary64, mul, div, of_int}
use lib.Ieee.Exact.{HasValue}
use lib.Ieee.Positive.{positive, positive_of_value}
use Rattle.double.specs.Seconds.{seconds_of}
use Rattle.double.proofs.Nears.{Near, near-value, near-round, near-whole, near_mul, near_div, seconds-near, sized-by}
use Rattle.stream.specs.Elapsed.{per_datagram64, slack, slack-is, plausible}

slack-near : Near 1 slack 101 100
slack-near = subst (λ (x : Float). Near 1 x 101 100) (sym slack-is) (near-round 101 100 (zero-lt-suc 99) (sized-by 1000 101 100 (zero-lt-suc 99) (lit≤ tt) (lit≤ tt)))

module _ (rate : Float) (r : ℕ) (v : HasValue rate false r 1) (some : 0 < r) (few : r ≤ 1000000000) where
  pub rate-positive : T (positive rate)
  rate-positive = positive_of_value rate r 1 v some

  -- the datagrams of a second
  pub datagrams-near : Near 1 (div binary64 rate per_datagram64) (r * 1) 238
  datagrams-near =
      near_div 0 0 rate per_datagram64 r 1 238 1 (zero-lt-suc 0) (lit≤ tt) (near-value rate r 1 v) (near-value per_datagram64 238 1 (refl, refl)) (zero-lt-suc 237) tt
      (sized-by 900 (r * 1) 238 (zero-lt-suc 237) (lit≤ tt) (le_trans (le_of_eq (mul-one r)) (le_trans few (lit≤ tt))))

  -- ---- by elapsed time
  module _ (ns : ℕ) (h : ns < 2 ^ 64) where
    -- the samples of a time of 64 bits
    pub product_le : ns * r ≤ 18446744073709551616000000000
    product_le = le_trans (mul-le-mul (le_of_lt h) few) (lit≤ tt)

    -- the datagrams of the time
    pub product-near : Near 4 (mul binary64 (seconds_of ns) (div binary64 rate per_datagram64)) (ns * (r * 1)) 238000000000
    product-near =
        near_mul 2 1 (seconds_of ns) (div binary64 rate per_datagram64) ns 1000000000 (r * 1) 238 (zero-lt-suc 999999999) (lit≤ tt) (seconds-near ns h) datagrams-near (zero-lt-suc 237)
        (sized-by 900 (ns * (r * 1)) 238000000000 (lit< tt) (lit≤ tt) (le_trans (le_of_eq (ap (λ (z : ℕ). ns * z) (mul-one r))) (le_trans product_le (lit≤ tt))))

    pub plausible-near : Near 6 (plausible ns rate) (ns * r * 101) 23800000000000
    unfolding plausible
    plausible-near =
        subst (λ (z : ℕ). Near 6 (plausible ns rate) (ns * z * 101) 23800000000000) (mul-one r)
        (near_mul 4 1 (mul binary64 (seconds_of ns) (div binary64 rate per_datagram64)) slack (ns * (r * 1)) 238000000000 101 100 (lit< tt) (lit≤ tt) product-near slack-near (zero-lt-suc 99)
        (sized-by 900 (ns * (r * 1) * 101) 23800000000000 (lit< tt) (lit≤ tt)
        (le_trans (mul-le-mul (le_trans (le_of_eq (ap (λ (z : ℕ). ns * z) (mul-one r))) product_le) (lit≤ {m = 101} {n = 101} tt)) (lit≤ tt))))

    -- the samples of the time
    pub samples-near : Near 3 (mul binary64 (seconds_of ns) rate) (ns * r) 1000000000
    samples-near =
        near_mul 2 0 (seconds_of ns) rate ns 1000000000 r 1 (zero-lt-suc 999999999) (lit≤ tt) (seconds-near ns h) (near-value rate r 1 v) (zero-lt-suc 0)
        (sized-by 900 (ns * r) 1000000000 (lit< tt) (lit≤ tt) (le_trans product_le (lit≤ tt)))

  -- ---- by a count
  module _ (n : ℕ) (h : n < 2 ^ 64) where
    pub account-near : Near 2 (div binary64 (of_int binary64 (pos n)) rate) n r
    account-near =
        subst₂ (λ (a c : ℕ). Near 2 (div binary64 (of_int binary64 (pos n)) rate) a c) (mul-one n) (one-mul r)
        (near_div 1 0 (of_int binary64 (pos n)) rate n 1 r 1 (zero-lt-suc 0) (lit≤ tt) (near-whole n h) (near-value rate r 1 v) some rate-positive
        (sized-by 900 (n * 1) (1 * r) (mul-pos (zero-lt-suc 0) some) (le_trans (le_of_eq (one-mul r)) (le_trans few (lit≤ tt))) (le_trans (le_of_eq (mul-one n)) (le_trans (le_of_lt h) (lit≤ tt)))))

    pub total-near : Near 2 (mul binary64 (of_int binary64 (pos n)) per_datagram64) (n * 238) 1
    total-near =
        near_mul 1 0 (of_int binary64 (pos n)) per_datagram64 n 1 238 1 (zero-lt-suc 0) (lit≤ tt) (near-whole n h) (near-value per_datagram64 238 1 (refl, refl)) (zero-lt-suc 0)
        (sized-by 900 (n * 238) 1 (zero-lt-suc 0) (lit≤ tt) (le_trans (mul-le-mul (le_of_lt h) (lit≤ {m = 238} {n = 238} tt)) (lit≤ tt)))

    pub covered-near : Near 3 (div binary64 (mul binary64 (of_int binary64 (pos n)) per_datagram64) rate) (n * 238) r
    covered-near =
        let x = mul binary64 (of_int binary64 (pos n)) per_datagram64 in
        subst₂ (λ (a c : ℕ). Near 3 (div binary64 x rate) a c) (mul-one (n * 238)) (one-mul r)
        (near_div 2 0 x rate (n * 238) 1 r 1 (zero-lt-suc 0) (lit≤ tt) total-near (near-value rate r 1 v) some rate-positive
        (sized-by 900 (n * 238 * 1) (1 * r) (mul-pos (zero-lt-suc 0) some) (le_trans (le_of_eq (one-mul r)) (le_trans few (lit≤ tt)))
        (le_trans (le_of_eq (mul-one (n * 238))) (le_trans (mul-le-mul (le_of_lt h) (lit≤ {m = 238} {n = 238} tt)) (lit≤ tt)))))
