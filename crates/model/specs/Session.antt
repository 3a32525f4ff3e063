-- The session as a host: its state, Open, and one step for each call. Definitions only.
use Rattle.std.specs.Prelude.{ℕ, List, Float}
use Rattle.model.specs.Host.{Call, Begin, Pass, Arrival, Take, Close, TakeMissing, TakeDiscontinuity, TakeStalled, Step, Host}
use Rattle.model.specs.State.{State, waiting_in, keeping}
use Rattle.model.specs.Open.{opened}
use Rattle.model.specs.Begin.{begin_accepted, begin}
use Rattle.model.specs.Pass.{pass_accepted, pass}
use Rattle.model.specs.Arrival.{arrival_accepted, arrival}
use Rattle.model.specs.Take.{take_accepted, take_out}
use Rattle.model.specs.Close.{stop, close}
use Rattle.model.specs.Drain.{take_missing, take_discontinuity, take_stalled}
use Rattle.model.specs.declared.settings.Settings.{Settings}

unfoldable pub step : State → Call → Step State
step st (Begin now) = keeping st.samples (begin st.session now)
step st (Pass now packets) = keeping st.samples (pass st.session now packets)
step st (Arrival incoming packets) = arrival st incoming packets
step st (Take now buffer) = take_out st now buffer
step st (Close packets) = keeping st.samples (close st.session packets)
step st TakeMissing = keeping st.samples (take_missing st.session)
step st TakeDiscontinuity = keeping st.samples (take_discontinuity st.session)
step st TakeStalled = keeping st.samples (take_stalled st.session)

-- what a call gives where no row of 01's table applies to it
abbrev pub answered : State → Call → Step State
answered st (Begin now) = keeping st.samples (begin_accepted st.session now)
answered st (Pass now packets) = keeping st.samples (pass_accepted st.session now packets)
answered st (Arrival incoming packets) = arrival_accepted st incoming packets
answered st (Take now buffer) = take_accepted st now buffer
answered st (Close packets) = keeping st.samples (stop st.session packets)
answered st TakeMissing = keeping st.samples (take_missing st.session)
answered st TakeDiscontinuity = keeping st.samples (take_discontinuity st.session)
answered st TakeStalled = keeping st.samples (take_stalled st.session)

-- a session just opened, with any 476 f32 lent beside it: none of them waits
abbrev pub opened_with : List Float → Settings → ℕ → State
opened_with samples s now = record { session = opened s now; samples = samples }

abbrev pub session : List Float → Host
session samples =
    record { State = State; opened = opened_with samples; step = step; waiting = λ st. waiting_in st.session.receiver st.samples }
