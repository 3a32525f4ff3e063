-- Close: run is turned off, by two high priority packets. What waits and what is pending stays. Definitions only.
use Rattle.std.specs.Prelude.{ℕ, true, List, []}
use Rattle.base.specs.Rows.{unless}
use Rattle.octets.specs.Written.{written}
use Rattle.model.specs.Answer.{done, closed}
use Rattle.model.specs.Host.{Step}
use Rattle.model.specs.State.{replied, refuse}
use Rattle.model.specs.Table.{close_rows}
use Rattle.model.specs.Sending.{stop_packets}
use Rattle.model.specs.Parts.{with_common, with_closed}
use Rattle.model.specs.declared.session.Session.{Session}

-- where no row applies. Nothing else changes: the queue, the slots and the stall flag stay, and no clock moves
unfoldable pub stop : Session → List ℕ → Step Session
stop s d =
    let out = stop_packets s.common in
    replied (done closed) out.streams (written d 0 out.octets) [] (with_common s (with_closed out.common true))

unfoldable pub close : Session → List ℕ → Step Session
close s d =
    unless (close_rows s d) (λ k. refuse k d [] s) (stop s d)
