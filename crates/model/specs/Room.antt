-- What is written has room: 01's 1444, 4452 and 2888 octets suffice, and no lent buffer changes its size. What is claimed of every
-- state and call. Definitions only.
use Rattle.std.specs.Prelude.{◌≡◌, ◌≤◌, length}
use Rattle.model.specs.Host.{Call, Step}
use Rattle.model.specs.Refusals.{lent_packets, lent_buffer}

pub record Roomy {S : Type 0} (c : Call) (x : Step S) : Type 0 where
  pub packets : length x.reply.packets ≡ length (lent_packets c)
  pub buffer : length x.reply.buffer ≡ length (lent_buffer c)
  -- the places of the code's list of streams
  pub streams : length x.reply.streams ≤ 5
