-- `radio_probes::sample_cases::fill`: the next number is of 24 bits. Assumes nothing.
use Prim.Native.Nat.{◌<◌}
use Rattle.radio_probes.proofs.sample_cases.fill.Given as goal

abbrev pub invariant-loop-x : goal.invariant-loop-x
invariant-loop-x l = l.v < 16777216
