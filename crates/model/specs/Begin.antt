-- Begin. Definitions only.
use Rattle.std.specs.Prelude.{ℕ, [], Option, Some, None}
use Rattle.base.specs.Rows.{unless}
use Rattle.model.specs.Answer as Answer
use Rattle.model.specs.Rules as Rules
use Rattle.model.specs.Host.{Step}
use Rattle.model.specs.State.{at_reading, replied, refuse}
use Rattle.model.specs.Table.{begin_rows}
use Rattle.model.specs.Parts.{with_reading, with_parked, with_receiver}
use Rattle.model.specs.declared.receiver.Receiver.{Receiver}
use Rattle.model.specs.declared.session.Session.{Session}

-- an anchor that is set stays; an empty one becomes this reading
unfoldable pub or_at : Option ℕ → ℕ → Option ℕ
or_at None now = Some now
or_at (Some t) now = Some t

-- a pause opens a window of `size` or fills an open one up; an empty wait anchor becomes `now`, and the read has a copy of it
unfoldable pub begun_by : ℕ → Receiver → ℕ → Receiver
begun_by size r now =
    let anchor = or_at r.reading.wait_entered now in
    with_parked (with_reading r (record { wait_entered = anchor; entered = anchor }))
    (Rules.begun size r.read_returned r.parked now)

-- where no row applies: the read is open
abbrev pub begin_accepted : Session → ℕ → Step Session
begin_accepted s now =
    replied (Answer.done Answer.begun) [] [] []
    (with_receiver (at_reading s now) (begun_by s.common.settings.park_window s.receiver now))

unfoldable pub begin : Session → ℕ → Step Session
begin s now = unless (begin_rows s now) (λ k. refuse k [] [] s) (begin_accepted s now)
