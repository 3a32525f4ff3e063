-- `tuning::rate::rate_khz` meets its contract: the lowest rate and those doubled are put to the test one after another. Assumes nothing.
use mathlib.Core.Path.{refl, subst}
use Prim.Native.Nat.{◌*◌}
use native.Mathlib.Omega.{arith}
use Rattle.tuning.specs.Rate.{is_rate}
use Rattle.tuning.proofs.RateLoop.{Going, going_on, going-none, going-found}
use Rattle.tuning.proofs.rate.rate_khz.Goals as goal

pub loop-init : goal.loop-init
unfolding is_rate
loop-init c = (refl, refl)

pub returns-then-hz-rate : goal.returns-then-hz-rate
returns-then-hz-rate c = going-found c.args.rate c.loop.hz _ (omega arith) c.if-hz-rate.true c.loop.invariant

pub loop-preserved : goal.loop-preserved
loop-preserved c = subst (Going c.args.rate (c.loop.hz * 2)) (omega arith) (going_on c.args.rate c.loop.hz _ (omega arith) c.if-hz-rate.false c.loop.invariant)

pub returns : goal.returns
returns c = going-none c.args.rate c.loop.hz _ (omega arith) c.loop.invariant
