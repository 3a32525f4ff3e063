-- `tuning::rate::rate_khz` meets its contract: the lowest rate and those doubled are put to the test one after another. Assumes nothing.
use Prim.Native.Nat.{◌-◌}
use Rattle.tuning.proofs.RateLoop.{Going}
use Rattle.tuning.proofs.rate.rate_khz.Given as goal

abbrev pub invariant-loop : goal.invariant-loop
invariant-loop l = Going l.rate l.hz (4 - l.counter)
