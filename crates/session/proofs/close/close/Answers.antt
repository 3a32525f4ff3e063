-- `session::close::close` meets its contract: two rows, then the packets. Assumes nothing.
use mathlib.Core.Path.{refl, ◌∙◌}
use lib.ListN.{length}
use borrow.Author.Tests.{lt-ltb, le-ltb}
use Rattle.base.proofs.Picks.{pick-t, pick-f}
use Rattle.model.specs.Close as Close
use Rattle.sending.proofs.Givings.{gives-told, gives_as}
use Rattle.session.proofs.close.close.Goals as goal

pub returns-then-s : goal.returns-then-s
unfolding Close.close
returns-then-s c = gives-told _ _ _ _ _ refl (pick-t _ _ _ c.if-s.true)

pub returns-then-packets-lt-CLOSE_LEN : goal.returns-then-packets-lt-CLOSE_LEN
unfolding Close.close
returns-then-packets-lt-CLOSE_LEN c =
    gives-told _ _ _ _ _ refl (pick-f _ _ _ c.if-s.false ∙ pick-t _ _ _ (lt-ltb (length c.args.packets.now) 2888 c.if-packets-lt-CLOSE_LEN.true))

pub returns : goal.returns
unfolding Close.close
returns c =
    gives_as _ _ _ _ _ _ (pick-f _ _ _ c.if-s.false ∙ pick-f _ _ _ (le-ltb (length c.args.packets.now) 2888 c.if-packets-lt-CLOSE_LEN.false)) c.stop.ensures
