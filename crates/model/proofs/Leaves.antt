-- What each call leaves as it was, of every state; and what follows of a list of calls. Assumes nothing.
use Rattle.std.specs.Prelude.{Option, Some, None}
use Rattle.attenuator.specs.declared.Controller.{Controller}
use Rattle.std.proofs.Common.{◌≡◌, ℕ, List, [], ◌∷◌, refl, ap, ◌∙◌, arith}
use Rattle.base.proofs.Picks.{pick-either}
use Rattle.base.specs.Rows.{unless}
use Rattle.base.proofs.Rows.{unless-map}
use Rattle.base.specs.Told.{Told, gives, refused}
use Rattle.model.specs.Routing.{Routed, iq, status, ignored, malformed}
use Rattle.model.specs.Host.{Incoming, Call, Begin, Pass, Arrival, Take, Close, TakeMissing, TakeDiscontinuity, TakeStalled, Step}
use Rattle.model.specs.State.{State, at_reading, keeping}
use Rattle.model.specs.Table.{rows_of, refusal_of}
use Rattle.model.specs.Begin.{begun_by}
use Rattle.model.specs.Pass.{stall_soft, stall_hard, passed}
use Rattle.model.specs.Hearing.{left_out, accepted_by}
use Rattle.model.specs.Arrival.{hear, heard_as, heard_iq, overload, heard_status, with_one_more, discarded, given_up, heard_malformed, arrived, at_later, route}
use Rattle.model.specs.Take.{handed, hand_out}
use Rattle.model.specs.Sending.{send, stop_packets}
use Rattle.model.specs.Close.{stop}
use Rattle.model.specs.Drain.{take_missing, take_discontinuity, take_stalled}
use Rattle.model.specs.Session.{step, answered}
use Rattle.model.specs.Leaves.{reading_of, reading_after, stored, counts_after, by_pass, by_status, by_arrival, control, changed, Leaves}
use Rattle.model.specs.Parts.{with_common}
use Rattle.model.specs.declared.session.Session.{Session}
use Rattle.model.proofs.Refusals.{refusal, step_is, step-either}
use Rattle.model.proofs.Sends.{due-steady, stepped-steady, stop-steady}

-- ---- what is answered

-- of a session whose last reading was stored
abbrev Passes : Session → Step Session → Type 0
Passes s x = x.state ≡ by_pass s x.state

soft-leaves : (s : Session) (d : List ℕ) → Passes s (stall_soft s d)
unfolding stall_soft
soft-leaves s d = refl

hard-leaves : (s : Session) (d : List ℕ) → Passes s (stall_hard s d)
unfolding stall_hard
hard-leaves s d = refl

passed-leaves : (s : Session) (now : ℕ) (d : List ℕ) → Passes s (passed s now d)
unfolding passed
passed-leaves s now d =
    pick-either _ _ _ (Passes s) (λ _. refl) λ _.
    pick-either _ (stall_soft s d) _ (Passes s) (λ _. soft-leaves s d) λ _.
    pick-either _ (stall_hard s d) _ (Passes s) (λ _. hard-leaves s d) λ _.
    ap (with_common s) (due-steady now s.common).kept

module _ (st : State) (i : Incoming) (d : List ℕ) where
  abbrev Kept : Routed → Step State → Type 0
  Kept p x = x.state ≡ by_arrival st p x.state

  iq-leaves : (count : ℕ) → Kept (iq count) (heard_iq st i d count)
  unfolding heard_iq heard_as hear left_out accepted_by
  iq-leaves count = pick-either _ _ _ (Kept (iq count)) (λ _. refl) (λ _. refl)

  abbrev HeardStatus : Step Session → Type 0
  HeardStatus x = x.state ≡ by_status st.session x.state

  overload-leaves : (a : Option Controller) (bits : Told) → HeardStatus (overload st.session i d a bits)
  unfolding overload
  overload-leaves None bits = refl
  overload-leaves (Some controller) (gives []) = refl
  overload-leaves (Some controller) (gives (bits ∷ vs)) = ap (with_common st.session) (stepped-steady i.later _ _).kept
  overload-leaves (Some controller) (refused k vs) = refl

  abbrev Broken : Step Session → Type 0
  Broken x = Kept malformed (keeping st.samples x)

  given-up-leaves : Broken (given_up st.session d)
  unfolding with_one_more
  given-up-leaves = refl

  discarded-leaves : Broken (discarded st.session d)
  unfolding with_one_more
  discarded-leaves = refl

  malformed-leaves : Broken (heard_malformed st.session d)
  unfolding heard_malformed
  malformed-leaves = pick-either _ (given_up st.session d) (discarded st.session d) Broken (λ _. given-up-leaves) (λ _. discarded-leaves)

  arrived-leaves : (p : Routed) → Kept p (arrived st i d p)
  unfolding arrived heard_status
  arrived-leaves (iq count) = iq-leaves count
  arrived-leaves status = ap (control st) (overload-leaves _ _)
  arrived-leaves ignored = refl
  arrived-leaves malformed = malformed-leaves

pub answered-leaves : (st : State) (c : Call) → Leaves st c (answered st c).state
unfolding begun_by hand_out handed stop stop_packets send take_missing take_discontinuity take_stalled
answered-leaves st (Begin now) = refl
answered-leaves st (Pass now d) = ap (control st) (passed-leaves (stored st (Pass now d)).session now d)
answered-leaves st (Arrival i d) = arrived-leaves (stored st (Arrival i d)) i d (route st i)
answered-leaves st (Take now buffer) = refl
answered-leaves st (Close d) = refl
answered-leaves st TakeMissing = refl
answered-leaves st TakeDiscontinuity = refl
answered-leaves st TakeStalled = refl

-- ---- every call

-- where it is not refused; a refusal changes nothing at all
pub leaves : (st : State) (c : Call) → refusal_of (step st c).reply.answer ≡ None → Leaves st c (step st c).state
leaves st c =
    step-either (λ (x : Step State). refusal_of x.reply.answer ≡ None → Leaves st c x.state) st c
    (λ k e. let z : ◌≡◌ {A = ℕ} 0 1 = cc in absurd (omega arith))
    (λ _ e. answered-leaves st c)

route-reads : (st t : State) (p : Routed) → (by_arrival st p t).session.common.last_reading ≡ st.session.common.last_reading
route-reads st t (iq count) = refl
route-reads st t status = refl
route-reads st t ignored = refl
route-reads st t malformed = refl

abbrev last_of : State → ℕ
last_of st = st.session.common.last_reading

changed-reads : (st : State) (c : Call) (t : State) → last_of (changed st c t) ≡ reading_of (last_of st) c
changed-reads st (Begin now) t = refl
changed-reads st (Pass now d) t = refl
changed-reads st (Arrival i d) t = route-reads (stored st (Arrival i d)) t (route st i)
changed-reads st (Take now buffer) t = refl
changed-reads st (Close d) t = refl
changed-reads st TakeMissing t = refl
changed-reads st TakeDiscontinuity t = refl
changed-reads st TakeStalled t = refl

-- the last accepted reading
pub reading-stored : (st : State) (c : Call) → (step st c).state.session.common.last_reading ≡ reading_after st c
reading-stored st c =
    ap (λ (x : Step State). last_of x.state) (step_is st c)
    ∙ unless-map (λ (x : Step State). last_of x.state) (rows_of st c) (refusal st c) (answered st c)
    ∙ ap (unless (rows_of st c) (λ k. last_of st)) (ap last_of (answered-leaves st c) ∙ changed-reads st c _)

-- ---- the streams' counts: one more for each packet that the call lists

abbrev Raises : {S : Type 0} → (S → List ℕ) → List ℕ → Step S → Type 0
Raises seqOf before x = seqOf x.state ≡ counts_after before x.reply.streams

abbrev seq_in : Session → List ℕ
seq_in s = s.common.seq

abbrev seq_at : State → List ℕ
seq_at st = seq_in st.session

passed-raises : (s : Session) (now : ℕ) (d : List ℕ) → Raises seq_in (seq_in s) (passed s now d)
unfolding passed stall_soft stall_hard
passed-raises s now d =
    pick-either _ _ _ (Raises seq_in (seq_in s)) (λ _. refl) λ _.
    pick-either _ _ _ (Raises seq_in (seq_in s)) (λ _. refl) λ _.
    pick-either _ _ _ (Raises seq_in (seq_in s)) (λ _. refl) λ _.
    (due-steady now s.common).counted

module _ (st : State) (i : Incoming) (d : List ℕ) where
  overload-raises : (a : Option Controller) (bits : Told) → Raises seq_in (seq_at st) (overload st.session i d a bits)
  unfolding overload
  overload-raises None bits = refl
  overload-raises (Some controller) (gives []) = refl
  overload-raises (Some controller) (gives (bits ∷ vs)) = (stepped-steady i.later _ st.session.common).counted
  overload-raises (Some controller) (refused k vs) = refl

  arrived-raises : (p : Routed) → Raises seq_at (seq_at st) (arrived st i d p)
  unfolding arrived heard_status heard_iq heard_as hear heard_malformed with_one_more
  arrived-raises (iq count) = pick-either _ _ _ (Raises seq_at (seq_at st)) (λ _. refl) (λ _. refl)
  arrived-raises status = overload-raises _ _
  arrived-raises ignored = refl
  arrived-raises malformed = pick-either _ _ _ (Raises seq_in (seq_at st)) (λ _. refl) (λ _. refl)

answered-raises : (st : State) (c : Call) → Raises seq_at (seq_at st) (answered st c)
unfolding begun_by hand_out handed stop take_missing take_discontinuity take_stalled
answered-raises st (Begin now) = refl
answered-raises st (Pass now d) = passed-raises (at_reading st.session now) now d
answered-raises st (Arrival i d) = arrived-raises (at_later st i.later) i d (route st i)
answered-raises st (Take now buffer) = refl
answered-raises st (Close d) = (stop-steady st.session.common).counted
answered-raises st TakeMissing = refl
answered-raises st TakeDiscontinuity = refl
answered-raises st TakeStalled = refl

pub counts-rise : (st : State) (c : Call) → (step st c).state.session.common.seq ≡ counts_after st.session.common.seq (step st c).reply.streams
counts-rise st c = step-either (Raises seq_at (seq_at st)) st c (λ k. refl) (λ _. answered-raises st c)
