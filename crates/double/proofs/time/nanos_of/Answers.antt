-- `double::time::nanos_of` meets its contract: the quotient and the rest of the two limbs, by the scale. Assumes nothing.
use Rattle.std.proofs.Common.{ℕ, ◌-◌, ◌<◌, ◌∙◌, lt_of_le_of_lt, arith}
use native.Mathlib.Nat.{mod-le}
use Rattle.double.proofs.Nanos.{nanos-tiny, nanos-over, nanos-fine, past-at, coarse-at, sum_fits, product-fits, two-parts, one_shl, b_of, r_of, r_small, b-small, shl1, shl1-even}
use Rattle.double.proofs.time.nanos_of.Goals as goal

pub returns-then-k-lt990 : goal.returns-then-k-lt990
returns-then-k-lt990 c = nanos-tiny c.args.d c.args.k c.requires.0 c.if-k-lt990.true

pub returns-then-k-ge1074 : goal.returns-then-k-ge1074
returns-then-k-ge1074 c = nanos-over c.args.d c.args.k (c.requires.1 c.if-k-ge1074.true) c.if-k-ge1074.true

pub to_even-requires : goal.to_even-requires
to_even-requires c =
    (lt_of_le_of_lt (mod-le (b_of c.args.d) (shl1 (1048 - c.args.k))) (b-small c.args.d c.requires.0), r_small c.args.d, shl1-even (1048 - c.args.k) (omega arith) (omega arith))

pub returns-then-k-lt1048 : goal.returns-then-k-lt1048
returns-then-k-lt1048 c =
    let d = c.args.d in
    c.to_even.ensures
    ∙ nanos-fine d c.args.k (b_of d) (r_of d) (r_small d) (two-parts d) (shl1 (1048 - c.args.k)) c.if-k-lt1048.true (one_shl (1048 - c.args.k) (omega arith))

pub returns-then-b-u : goal.returns-then-b-u
returns-then-b-u c =
    let g = c.args in
    past-at g.d g.k c.if-k-ge1074.false c.if-k-lt1048.false c.if-b-u.true

pub overflow_mul-b-2 : goal.overflow_mul-b-2
overflow_mul-b-2 c =
    let g = c.args in
    record { fits = product-fits g.d g.k c.if-k-ge1074.false c.if-k-lt1048.false c.if-b-u.false }

pub overflow_add-b-2 : goal.overflow_add-b-2
overflow_add-b-2 c =
    let g = c.args in
    record { fits = sum_fits g.d g.k c.if-k-ge1074.false c.if-k-lt1048.false c.if-b-u.false }

pub to_even-requires-2 : goal.to_even-requires-2
to_even-requires-2 c =
    let u = shl1 (1074 - c.args.k) in
    (lt_of_le_of_lt (mod-le (r_of c.args.d) u) (wide (r_of c.args.d) (r_small c.args.d)), omega arith, shl1-even (1074 - c.args.k) (omega arith) (omega arith))
  where
    wide : (r : ℕ) → r < 67108864 → r < 1152921504606846976
    wide r h = omega arith

pub returns : goal.returns
returns c =
    let g = c.args in
    c.to_even-2.ensures ∙ coarse-at g.d g.k c.if-k-ge1074.false c.if-k-lt1048.false
