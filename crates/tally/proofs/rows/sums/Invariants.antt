-- `tally::rows::sums` meets its contract. Assumes nothing.
use Rattle.std.proofs.Common.{◌≡◌, drop}
use Rattle.tally.specs.Stretches.{sums_from, sums_of}
use Rattle.tally.specs.Table.{stretches_of}
use Rattle.tally.proofs.rows.sums.Given as goal

abbrev pub invariant-loop-i : goal.invariant-loop-i
invariant-loop-i l = sums_from l.t (drop l.i (stretches_of l.table l.a)) ≡ sums_of (stretches_of l.table l.a)
