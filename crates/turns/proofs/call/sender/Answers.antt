-- `turns::call::sender` meets its contract. Assumes nothing.
use mathlib.Core.Path.{sym}
use borrow.Author.Tests.{eq-eqb, ne_eqb}
use Rattle.base.proofs.Picks.{pick-t, pick-f}
use Rattle.turns.proofs.call.sender.Goals as goal

pub returns-then-address-eq-IPV6 : goal.returns-then-address-eq-IPV6
returns-then-address-eq-IPV6 c = sym (pick-t _ _ _ (eq-eqb _ _ c.if-address-eq-IPV6.true))

pub returns : goal.returns
returns c = sym (pick-f _ _ _ (ne_eqb _ _ c.if-address-eq-IPV6.false))
