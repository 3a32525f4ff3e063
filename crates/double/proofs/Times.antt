-- How large a time in seconds and a count are, as doubles. Assumes nothing.
use Rattle.std.proofs.Common.{ℕ, ◌+◌, ◌/◌, ◌%◌, ◌^◌, ◌<◌, ◌≤◌, pos, refl, le_trans, le_refl, arith, lit≤}
use lib.Ieee.{round, binary64, div, of_int}
use Rattle.double.specs.Seconds.{seconds_of, giga}
use Rattle.double.proofs.Bounds.{UpTo, exact-small, of-nat-up-to, add-up-to, div-up-to, up-to-more, Exact}
use Rattle.double.specs.Whole.{most}

pub fraction-up-to : (ns : ℕ) → UpTo (div binary64 (of_int binary64 (pos (ns % 1000000000))) giga) 1
fraction-up-to ns =
    div-up-to (of_int binary64 (pos (ns % 1000000000))) giga 1 1000000000 tt (exact-small 1 (lit≤ tt))
    (of-nat-up-to (ns % 1000000000) 1000000000 (exact-small 1000000000 (lit≤ tt)) (below ns)) (lit≤ tt)
  where
    below : (ns : ℕ) → ns % 1000000000 ≤ 1000000000
    below ns = omega arith

-- at most the next whole second
pub seconds-within : (ns : ℕ) → ns < 2 ^ 64 → UpTo (seconds_of ns) (ns / 1000000000 + 1)
unfolding seconds_of
seconds-within ns h =
    add-up-to (of_int binary64 (pos (ns / 1000000000))) (div binary64 (of_int binary64 (pos (ns % 1000000000))) giga) (ns / 1000000000) 1 (exact-small (ns / 1000000000 + 1) (next ns h))
    (of-nat-up-to (ns / 1000000000) (ns / 1000000000) (exact-small (ns / 1000000000) (few ns h)) (le_refl (ns / 1000000000)))
    (fraction-up-to ns)
  where
    next : (ns : ℕ) → ns < 18446744073709551616 → ns / 1000000000 + 1 ≤ 9007199254740992
    next ns h = omega arith

    few : (ns : ℕ) → ns < 18446744073709551616 → ns / 1000000000 ≤ 9007199254740992
    few ns h = omega arith

pub seconds-up-to : (ns : ℕ) → ns < 2 ^ 64 → UpTo (seconds_of ns) 18446744074
seconds-up-to ns h = up-to-more (seconds_of ns) (ns / 1000000000 + 1) 18446744074 (most-whole ns h) (seconds-within ns h)
  where
    most-whole : (ns : ℕ) → ns < 18446744073709551616 → ns / 1000000000 + 1 ≤ 18446744074
    most-whole ns h = omega arith

pub exact-u64 : Exact 18446744073709551616
unfolding round
exact-u64 = (refl, refl)

pub count-up-to : (n : ℕ) → n ≤ most → UpTo (of_int binary64 (pos n)) 18446744073709551616
count-up-to n h = of-nat-up-to n 18446744073709551616 exact-u64 (le_trans h (lit≤ tt))
