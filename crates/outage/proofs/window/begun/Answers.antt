-- `outage::window::begun` meets its contract. Assumes nothing.
use mathlib.Core.Path.{sym, ◌∙◌}
use Prim.Native.Nat.{◌-◌}
use Rattle.base.proofs.Picks.{pick-t, pick-f}
use native.Mathlib.Omega.{arith}
use borrow.Author.Tests.{le-leb, lt-leb}
use Rattle.model.specs.Rules as Rules
use Rattle.outage.proofs.window.begun.Goals as goal

pub returns-then-saturating_sub-ge-PARKED_AFTER : goal.returns-then-saturating_sub-ge-PARKED_AFTER
unfolding Rules.begun
returns-then-saturating_sub-ge-PARKED_AFTER c = let a = c.args in c.refilled.ensures ∙ sym (pick-t _ _ _ (le-leb 100000000 (a.now - a.taken) (omega arith)))

pub returns : goal.returns
unfolding Rules.begun
returns c = let a = c.args in sym (pick-f _ _ _ (lt-leb 100000000 (a.now - a.taken) (omega arith)))
