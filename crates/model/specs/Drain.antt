-- The drains return pending_missing, pending_discontinuity and the stall flag, and clear them, after Close too. Definitions only.
use Rattle.std.specs.Prelude.{[], None}
use Rattle.stall.specs.Episode.{taken}
use Rattle.model.specs.Answer.{slot, flag}
use Rattle.model.specs.Host.{Step}
use Rattle.model.specs.State.{replied}
use Rattle.model.specs.Parts.{with_receiver, with_pending, with_missing, with_discontinuity, with_stall}
use Rattle.model.specs.declared.session.Session.{Session}

unfoldable pub take_missing : Session → Step Session
take_missing s =
    let r = s.receiver in
    replied (slot r.pending.missing) [] [] [] (with_receiver s (with_pending r (with_missing r.pending None)))

unfoldable pub take_discontinuity : Session → Step Session
take_discontinuity s =
    let r = s.receiver in
    replied (slot r.pending.discontinuity) [] [] [] (with_receiver s (with_pending r (with_discontinuity r.pending None)))

unfoldable pub take_stalled : Session → Step Session
take_stalled s =
    let r = s.receiver in
    replied (flag (taken r.stall).stalled) [] [] [] (with_receiver s (with_stall r (taken r.stall).episode))
