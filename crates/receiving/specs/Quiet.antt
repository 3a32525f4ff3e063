-- What quiet comes to at a reading: nothing yet, a soft stall or a hard one. Definitions only.
use Rattle.std.specs.Prelude.{ℕ, ◌-◌, leb}
use Rattle.base.specs.Pick.{pick}
use Rattle.stall.specs.Episode.{is_due}
use Rattle.model.specs.State.{quiet_since_of}
use Rattle.model.specs.declared.receiver.Receiver.{Receiver}
use Rattle.receiving.specs.declared.read.Quiet.{Quiet}
use Rattle.receiving.specs.declared.read.Quiet.TheVariants.{Short, Soft, Hard}

unfoldable pub quiet_at : Receiver → ℕ → ℕ → ℕ → Quiet
quiet_at r now soft hard = pick (is_due r.stall (quiet_since_of r) now soft hard) Soft (pick (leb hard (now - quiet_since_of r)) Hard Short)
