-- `session::drain::take_stalled` meets its contract. Assumes nothing.
use Rattle.std.specs.Prelude.{[]}
use Rattle.std.proofs.Common.{ap}
use Rattle.stall.specs.Episode.{Taken}
use Rattle.model.specs.Answer.{flag}
use Rattle.model.specs.State.{replied}
use Rattle.model.specs.Parts.{with_receiver, with_stall}
use Rattle.model.specs.Drain as Drain
use Rattle.session.proofs.drain.take_stalled.Goals as goal

pub returns : goal.returns
unfolding Drain.take_stalled
returns c =
    let s = c.args.s.now in
    ap (λ (t : Taken). replied (flag t.stalled) [] [] [] (with_receiver s (with_stall s.receiver t.episode))) c.take.ensures
