-- Pass does the first that applies: Ready where samples wait, soft stall, hard stall, the packets that are due. Definitions only.
use Rattle.std.specs.Prelude.{ℕ, ◌-◌, List, [], nat_le, None}
use Rattle.base.specs.Pick.{pick}
use Rattle.base.specs.Rows.{unless}
use Rattle.stall.specs.Episode.{is_due, reported}
use Rattle.model.specs.Answer.{done, ready, soft_stall, hard_stall, sent}
use Rattle.model.specs.Host.{Step}
use Rattle.model.specs.State.{waits, quiet_since_of, at_reading, replied, refuse}
use Rattle.model.specs.Table.{pass_rows}
use Rattle.model.specs.Sending.{due_packets, wrote}
use Rattle.model.specs.Parts.{with_receiver, with_reading, with_stall, with_entered}
use Rattle.model.specs.declared.receiver.Receiver.{Receiver}
use Rattle.model.specs.declared.session.Session.{Session}

-- the read closes; its wait anchor stays
abbrev pub shut : Receiver → Receiver
shut r = with_reading r (with_entered r.reading None)

-- soft: the stall flag goes up, delivering ends, the read is closed; the last Take's time does not move
unfoldable pub stall_soft : Session → List ℕ → Step Session
stall_soft s d =
    replied (done soft_stall) [] d [] (with_receiver s (with_stall (shut s.receiver) (reported s.receiver.stall)))

-- hard: the read closes
unfoldable pub stall_hard : Session → List ℕ → Step Session
stall_hard s d = replied (done hard_stall) [] d [] (with_receiver s (shut s.receiver))

-- after every refusal, of a session whose last reading is now
unfoldable pub passed : Session → ℕ → List ℕ → Step Session
passed s now d =
    pick (waits s.receiver) (replied (done ready) [] d [] s)
    (pick (is_due s.receiver.stall (quiet_since_of s.receiver) now s.common.settings.soft_after s.common.settings.stall_after) (stall_soft s d)
    (pick (nat_le s.common.settings.stall_after (now - quiet_since_of s.receiver)) (stall_hard s d)
    (wrote (done sent) s d (due_packets now s.common))))

-- where no row applies
abbrev pub pass_accepted : Session → ℕ → List ℕ → Step Session
pass_accepted s now d = passed (at_reading s now) now d

unfoldable pub pass : Session → ℕ → List ℕ → Step Session
pass s now d = unless (pass_rows s now d) (λ k. refuse k d [] s) (pass_accepted s now d)
