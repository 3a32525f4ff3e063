-- Packets written one after another: what a step of sending makes of the progress and of the lent buffer. Definitions only.
use Rattle.std.specs.Prelude.{◌≡◌, ℕ, ◌+◌, ◌≤◌, List, [], ◌∷◌, slice_set}
use Rattle.octets.specs.Written.{Put}
use Rattle.model.specs.Sending.{Sending}
use Rattle.model.specs.Command.{streams_as}
use Rattle.model.specs.declared.command.Streams.{Streams}
use Rattle.model.specs.declared.session.Common.{Common}
use Rattle.sending.specs.declared.send.Progress.{Progress}

-- one stream more in the code's list, and several
abbrev pub appended : Streams → ℕ → Streams
appended s offset = record { offsets = slice_set s.offsets s.count offset; count = s.count + 1 }

unfoldable pub listing : Streams → List ℕ → Streams
listing s [] = s
listing s (k ∷ ks) = listing (appended s k) ks

-- nothing is written yet
abbrev pub started : Common → Progress
started c = record { common = c; streams = streams_as []; end = 0 }

-- room for n octets and k streams more
pub record HasRoom (n k : ℕ) (p : Progress) (size : ℕ) : Type 0 where
  pub octets : p.end + n ≤ size
  pub streams : p.streams.count + k ≤ 5

-- from p and the buffer d, `out` was sent: its packets stand behind what was there, and its streams are listed behind those
pub record Sends (out : Sending) (p : Progress) (d : List ℕ) (r : Progress) (e : List ℕ) : Type 0 where
  pub common : r.common ≡ out.common
  pub streams : r.streams ≡ listing p.streams out.streams
  pub packets : Put d p.end out.octets r.end e
