-- A receiver whose read opens, and one whose read closes after a Take. Assumes nothing.
use Rattle.std.specs.Prelude.{Option}
use Rattle.model.specs.declared.receiver.Parked.{Parked}
use Prim.Native.Nat.{ℕ, ◌+◌}
use mathlib.Core.Path.{◌≡◌, ap, ◌∙◌}
use Rattle.stall.specs.Episode.{delivered}
use Rattle.stall.specs.declared.StallEpisode.{StallEpisode}
use Rattle.model.specs.Begin.{or_at, begun_by}
use Rattle.model.specs.Pass.{shut}
use Rattle.model.specs.Rules.{begun}
use Rattle.model.specs.Take.{handed}
use Rattle.model.specs.declared.receiver.Receiver.{Receiver}

-- a read opens with this anchor and this window
abbrev opened_with : Receiver → Option ℕ → Option Parked → Receiver
opened_with r anchor window =
    record {
      tracker = r.tracker;
      queue_pos = r.queue_pos;
      reading = record { wait_entered = anchor; entered = anchor };
      parked = window;
      pending = r.pending;
      last_valid_iq = r.last_valid_iq;
      last_accepted_iq = r.last_accepted_iq;
      read_returned = r.read_returned;
      stall = r.stall;
    }

pub begun-so : (r : Receiver) (size now : ℕ) (anchor : Option ℕ) (window : Option Parked) → anchor ≡ or_at r.reading.wait_entered now
    → window ≡ begun size r.read_returned r.parked now → opened_with r anchor window ≡ begun_by size r now
unfolding begun_by
begun-so r size now anchor window ha hw =
    ap (λ (x : Option ℕ). opened_with r x window) ha ∙ ap (opened_with r (or_at r.reading.wait_entered now)) hw

-- n pairs more are handed out, of a receiver whose read is closed
abbrev taken_from : Receiver → ℕ → ℕ → StallEpisode → Receiver
taken_from q now n stall =
    record {
      tracker = q.tracker;
      queue_pos = q.queue_pos + n;
      reading = q.reading;
      parked = q.parked;
      pending = q.pending;
      last_valid_iq = q.last_valid_iq;
      last_accepted_iq = q.last_accepted_iq;
      read_returned = now;
      stall = stall;
    }

pub handed-so : (r : Receiver) (now n : ℕ) (q : Receiver) (stall : StallEpisode) → q ≡ shut r → stall ≡ delivered q.stall
    → taken_from q now n stall ≡ handed r now n
unfolding handed
handed-so r now n q stall e d =
    ap (λ (x : StallEpisode). taken_from q now n x) d
    ∙ ap (λ (x : Receiver). taken_from x now n (delivered x.stall)) e
