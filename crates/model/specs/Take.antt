-- Take: as many pairs of the queue as the buffer has room for; then the read is closed and delivering is on. Definitions only.
use Rattle.std.specs.Prelude.{ℕ, ◌+◌, ◌*◌, ◌/◌, min, List, [], length, take, drop, Float}
use Rattle.base.specs.Rows.{unless}
use Rattle.octets.specs.Written.{written}
use Rattle.stall.specs.Episode.{delivered}
use Rattle.model.specs.Answer.{took}
use Rattle.model.specs.Host.{Step}
use Rattle.model.specs.State.{State, left, at_reading, replied, refuse}
use Rattle.model.specs.Table.{take_rows}
use Rattle.model.specs.Pass.{shut}
use Rattle.model.specs.Parts.{with_queue_pos, with_read_returned, with_stall, with_receiver}
use Rattle.model.specs.declared.receiver.Receiver.{Receiver}

-- the f32 of n pairs, from the queue's position on
abbrev pub front : Receiver → List Float → ℕ → List Float
front r samples n = take (2 * n) (drop (2 * r.queue_pos) samples)

-- the read is closed, delivering is on, and the Take's time is now
unfoldable pub handed : Receiver → ℕ → ℕ → Receiver
handed r now n =
    with_stall (with_read_returned (with_queue_pos (shut r) (r.queue_pos + n)) now) (delivered r.stall)

unfoldable pub hand_out : State → ℕ → List Float → ℕ → Step State
hand_out st now buffer n =
    let s = st.session in
    replied (took n) [] [] (written buffer 0 (front s.receiver st.samples n))
    (record { session = with_receiver (at_reading s now) (handed s.receiver now n); samples = st.samples })

-- as many pairs as the buffer has room for, or as wait
abbrev pub handable : State → List Float → ℕ
handable st buffer = min (length buffer / 2) (left st.session.receiver)

-- where no row applies
abbrev pub take_accepted : State → ℕ → List Float → Step State
take_accepted st now buffer = hand_out st now buffer (handable st buffer)

unfoldable pub take_out : State → ℕ → List Float → Step State
take_out st now buffer = unless (take_rows st.session now buffer) (λ k. refuse k [] buffer st) (take_accepted st now buffer)
