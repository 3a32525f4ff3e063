-- `marking::note::number` meets its contract. Assumes nothing.
use mathlib.Core.Path.{sym, ◌∙◌}
use borrow.Author.Tests.{lt-ltb, le-ltb}
use Rattle.base.proofs.Picks.{pick-t, pick-f}
use Rattle.marking.specs.Records.{number_in}
use Rattle.marking.proofs.note.number.Goals as goal

pub returns-then-datagram-lt4 : goal.returns-then-datagram-lt4
unfolding number_in
returns-then-datagram-lt4 c = sym (pick-t _ _ _ (lt-ltb _ _ c.if-datagram-lt4.true))

pub returns : goal.returns
unfolding number_in
returns c = c.get_u32.ensures ∙ sym (pick-f _ _ _ (le-ltb _ _ c.if-datagram-lt4.false))
