-- Hosts that are wrong, each the session but for one thing, and what is claimed of them: trials of demand 3's statement, and of Timely.
use Rattle.std.specs.Prelude.{Option, Some, None}
use Prim.Native.Nat.{ℕ, ◌+◌, min}
use Rattle.octets.specs.Number.{be_at}
use Rattle.sequence.specs.declared.SeqEvent.{SeqEvent}
use Rattle.sequence.specs.declared.SeqEvent.TheVariants.{InOrder, Gap, Stale, Restart}
use Rattle.sequence.specs.declared.SeqTracker.{SeqTracker}
use Rattle.sequence.specs.Tracker.{after}
use Rattle.model.specs.Answer.{Word, begun, ready, soft_stall, hard_stall, sent, ignored, status, malformed, malformed_limit, closed, Answer, refused, done, heard, took, slot, flag}
use Rattle.model.specs.Host.{Incoming, Call, Begin, Pass, Arrival, Take, Close, TakeMissing, TakeDiscontinuity, TakeStalled, Reply, Step, Host}
use Rattle.model.specs.State.{State, refuse}
use Rattle.model.specs.Refusals.{lent_packets, lent_buffer}
use Rattle.base.specs.Pick.{pick}
use mathlib.Core.Bool.{Bool}
use mathlib.Core.List.{List, [], ◌∷◌}
use Rattle.model.specs.Session.{step, session}
use Rattle.model.specs.Parts.{with_receiver, with_tracker, with_queue_pos}
use Rattle.model.specs.Lists.{silence}
use Rattle.model.specs.Timely.{Timely}
use Rattle.account.specs.Demand3.{Meets}
use Rattle.account.specs.Exact.{TellsAll}

-- the session, with another step
abbrev pub with : (State → Call → Step State) → Host
with f = record { State = State; opened = (session silence).opened; step = f; waiting = (session silence).waiting }

abbrev pub answering : Answer → Reply → Reply
answering a r = record { answer = a; streams = r.streams; packets = r.packets; buffer = r.buffer }

-- the session, with another answer by what was expected
abbrev pub telling : (Option ℕ → Answer → Answer) → Host
telling f =
    with (λ st c.
    record {
      reply = answering (f st.session.receiver.tracker.expected (step st c).reply.answer) (step st c).reply;
      state = (step st c).state;
    })

abbrev pub on_event : (SeqEvent → ℕ → Answer) → Answer → Answer
on_event f (heard event missing) = f event missing
on_event f (refused number) = refused number
on_event f (done word) = done word
on_event f (took n) = took n
on_event f (slot held) = slot held
on_event f (flag stalled) = flag stalled

-- ---- invented missing counts

-- one datagram more is told missing in each gap
abbrev pub more_in_gaps : SeqEvent → ℕ → Answer
more_in_gaps (Gap k) m = heard (Gap k) (m + 238)
more_in_gaps InOrder m = heard InOrder m
more_in_gaps Stale m = heard Stale m
more_in_gaps Restart m = heard Restart m

abbrev pub invents : Host
invents = telling (λ e. on_event more_in_gaps)

-- a second more is told missing with each restart
abbrev pub more_in_restarts : SeqEvent → ℕ → Answer
more_in_restarts Restart m = heard Restart (m + 48000)
more_in_restarts InOrder m = heard InOrder m
more_in_restarts (Gap k) m = heard (Gap k) m
more_in_restarts Stale m = heard Stale m

abbrev pub invents_outages : Host
invents_outages = telling (λ e. on_event more_in_restarts)

-- nothing is ever told missing
abbrev pub hushes : Host
hushes = telling (λ e. on_event (λ event m. heard event 0))

-- InOrder and 0 missing for every arrival
abbrev pub fixed : Host
fixed = telling (λ e. on_event (λ event m. heard InOrder 0))

-- ---- Restart where no datagram came, or none that is valid I/Q

abbrev pub at_begin : Word → Answer
at_begin begun = heard Restart 7
at_begin ready = done ready
at_begin soft_stall = done soft_stall
at_begin hard_stall = done hard_stall
at_begin sent = done sent
at_begin ignored = done ignored
at_begin status = done status
at_begin malformed = done malformed
at_begin malformed_limit = done malformed_limit
at_begin closed = done closed

abbrev pub at_malformed : Word → Answer
at_malformed malformed = heard Restart 7
at_malformed begun = done begun
at_malformed ready = done ready
at_malformed soft_stall = done soft_stall
at_malformed hard_stall = done hard_stall
at_malformed sent = done sent
at_malformed ignored = done ignored
at_malformed status = done status
at_malformed malformed_limit = done malformed_limit
at_malformed closed = done closed

abbrev pub on_word : (Word → Answer) → Answer → Answer
on_word f (done word) = f word
on_word f (heard event missing) = heard event missing
on_word f (refused number) = refused number
on_word f (took n) = took n
on_word f (slot held) = slot held
on_word f (flag stalled) = flag stalled

abbrev pub shouts : Host
shouts = telling (λ e. on_word at_begin)

abbrev pub shouts_at_malformed : Host
shouts_at_malformed = telling (λ e. on_word at_malformed)

-- ---- what a Pass lists and tells

abbrev pub listing : (List ℕ → List ℕ) → Reply → Reply
listing f r = record { answer = r.answer; streams = f r.streams; packets = r.packets; buffer = r.buffer }

-- the session, with another reply to each Pass
abbrev pub passing : (Reply → Reply) → State → Call → Step State
passing f st (Pass now d) = record { reply = f (step st (Pass now d)).reply; state = (step st (Pass now d)).state }
passing f st (Begin now) = step st (Begin now)
passing f st (Arrival i d) = step st (Arrival i d)
passing f st (Take now b) = step st (Take now b)
passing f st (Close d) = step st (Close d)
passing f st TakeMissing = step st TakeMissing
passing f st TakeDiscontinuity = step st TakeDiscontinuity
passing f st TakeStalled = step st TakeStalled

-- an idle Pass
abbrev pub idles : Host
idles = with (passing (listing (λ l. [])))

-- all keepalives in one Pass, once one of them is due
abbrev pub all_if_any : List ℕ → List ℕ
all_if_any [] = []
all_if_any (k ∷ l) = 3 ∷ 1 ∷ 2 ∷ 0 ∷ []

abbrev pub floods : Host
floods = with (passing (listing all_if_any))

-- a stall is told where packets would be sent, on the first Pass too
abbrev pub at_packets : Word → Answer
at_packets sent = done soft_stall
at_packets begun = done begun
at_packets ready = done ready
at_packets soft_stall = done soft_stall
at_packets hard_stall = done hard_stall
at_packets ignored = done ignored
at_packets status = done status
at_packets malformed = done malformed
at_packets malformed_limit = done malformed_limit
at_packets closed = done closed

abbrev pub stalls : Host
stalls = telling (λ e. on_word at_packets)

-- ---- Restart for every arrival where a number was expected

abbrev pub restart_later : Option ℕ → Answer → Answer
restart_later None a = a
restart_later (Some x) a = on_event (λ event m. heard Restart m) a

abbrev pub restarts : Host
restarts = telling restart_later

-- ---- the queue

abbrev pub queued_at : ℕ → State → State
queued_at at st = record { session = with_receiver st.session (with_queue_pos st.session.receiver at); samples = st.samples }

-- the state after a Close, a Take or an Arrival, made by one of these
abbrev pub leaving : (State → State) → (State → State) → (Incoming → Answer → State → State) → State → Call → Step State
leaving ended taken came st (Close d) = record { reply = (step st (Close d)).reply; state = ended (step st (Close d)).state }
leaving ended taken came st (Take now b) = record { reply = (step st (Take now b)).reply; state = taken (step st (Take now b)).state }
leaving ended taken came st (Arrival i d) =
    record { reply = (step st (Arrival i d)).reply; state = came i (step st (Arrival i d)).reply.answer (step st (Arrival i d)).state }
leaving ended taken came st (Begin now) = step st (Begin now)
leaving ended taken came st (Pass now d) = step st (Pass now d)
leaving ended taken came st TakeMissing = step st TakeMissing
leaving ended taken came st TakeDiscontinuity = step st TakeDiscontinuity
leaving ended taken came st TakeStalled = step st TakeStalled

-- Close empties the queue
abbrev pub drops : Host
drops = with (leaving (queued_at 238) (λ st. st) (λ i a st. st))

-- a Take leaves what it handed out in the queue
abbrev pub twice : Host
twice = with (leaving (λ st. st) (queued_at 0) (λ i a st. st))

-- ---- the tracker

-- the session, with another tracker after each Arrival
abbrev pub tracking : (ℕ → Answer → SeqTracker → SeqTracker) → Host
tracking f =
    with (leaving (λ st. st) (λ st. st) (λ i a st.
    record {
      session =
          with_receiver st.session
          (with_tracker st.session.receiver (f (be_at 4 i.octets 0) a st.session.receiver.tracker));
      samples = st.samples;
    }))

abbrev pub on_stale : SeqTracker → SeqTracker → SeqEvent → SeqTracker
on_stale stale other Stale = stale
on_stale stale other InOrder = other
on_stale stale other (Gap k) = other
on_stale stale other Restart = other

-- the tracker after a Stale, after a datagram that is no valid I/Q, and after any other answer
abbrev pub by_answer : SeqTracker → SeqTracker → SeqTracker → Answer → SeqTracker
by_answer stale unheard other (heard event m) = on_stale stale other event
by_answer stale unheard other (done word) = unheard
by_answer stale unheard other (refused number) = other
by_answer stale unheard other (took n) = other
by_answer stale unheard other (slot held) = other
by_answer stale unheard other (flag stalled) = other

-- Stale moves the expected number
abbrev pub advances : Host
advances = tracking (λ count a t. by_answer (record { expected = Some (after count); stale_run = t.stale_run }) t t a)

-- the eighth stale one is told Stale
abbrev pub bears : Host
bears = tracking (λ count a t. by_answer (record { expected = t.expected; stale_run = min t.stale_run 6 }) t t a)

-- a datagram that is no valid I/Q, a malformed one too, empties the stale run
abbrev pub resets : Host
resets = tracking (λ count a t. by_answer t (record { expected = t.expected; stale_run = 0 }) t a)

-- ---- what demand 3 can't see

-- refuses what it likes, every arrival, say: the test is any of state and call. What was refused did not arrive
abbrev pub refusing : (State → Call → Bool) → Host
refusing p = with (λ st c. pick (p st c) (refuse 12 (lent_packets c) (lent_buffer c) st) (step st c))

-- ---- none of the others passes

pub record Refuted : Type 1 where
  pub invents : ¬ Meets invents
  pub invents_outages : ¬ TellsAll invents_outages
  pub hushes : ¬ Meets hushes
  pub fixed : ¬ Meets fixed
  pub shouts : ¬ Meets shouts
  pub shouts_at_malformed : ¬ Meets shouts_at_malformed
  pub idles : ¬ Timely idles
  pub floods : ¬ Timely floods
  pub stalls : ¬ Timely stalls
  pub restarts : ¬ Meets restarts
  pub drops : ¬ Meets drops
  pub twice : ¬ Meets twice
  pub advances : ¬ Meets advances
  pub bears : ¬ Meets bears
  pub resets : ¬ Meets resets
