-- Each count is the sum of what was told, modulo 2^64, over every list of calls. Assumes nothing.
use Rattle.std.specs.Prelude.{Option, Some, None}
use Rattle.attenuator.specs.declared.Controller.{Controller}
use Rattle.std.proofs.Common.{◌≡◌, ℕ, ◌+◌, ◌%◌, ◌^◌, List, [], ◌∷◌, refl, ap, ◌∙◌, arith}
use lib.Ieee.{Float}
use Rattle.base.specs.Told.{gives, refused}
use Rattle.base.specs.Told as Told
use Rattle.base.proofs.Picks.{pick-either}
use Rattle.sequence.specs.declared.SeqEvent.{SeqEvent}
use Rattle.sequence.specs.declared.SeqEvent.TheVariants.{InOrder, Gap, Stale, Restart}
use Rattle.health.specs.Counters.{count_malformed}
use Rattle.health.specs.declared.InputHealthCounters.{InputHealthCounters}
use Rattle.model.specs.Answer.{Answer, heard}
use Rattle.model.specs.Routing.{Routed, iq, status, ignored, malformed}
use Rattle.model.specs.Host.{Incoming, Call, Begin, Pass, Arrival, Take, Close, TakeMissing, TakeDiscontinuity, TakeStalled, Step, trace, final}
use Rattle.model.specs.State.{State, at_reading}
use Rattle.model.specs.Pass.{stall_soft, stall_hard, passed}
use Rattle.model.specs.Hearing.{counted}
use Rattle.model.specs.Arrival.{hear, heard_as, heard_iq, overload, heard_status, with_one_more, heard_malformed, arrived, at_later, route}
use Rattle.model.specs.Take.{handed, hand_out}
use Rattle.model.specs.Close.{stop}
use Rattle.model.specs.Drain.{take_missing, take_discontinuity, take_stalled}
use Rattle.model.specs.Session.{step, answered, session}
use Rattle.model.specs.Counted.{dropped_by, gap_by, malformed_by, total}
use Rattle.model.specs.declared.session.Common.{Common}
use Rattle.model.specs.declared.session.Session.{Session}
use Rattle.model.proofs.Refusals.{step-either}
use Rattle.model.proofs.Sends.{due-steady, stepped-steady, stop-steady}

-- ---- the counters: each is the sum of what was told, modulo 2^64

-- a count of D, modulo 2^64, and n more
abbrev pub More : ℕ → ℕ → ℕ → Type 0
More before after n = (D : ℕ) → before ≡ D % 2 ^ 64 → after ≡ (D + n) % 2 ^ 64

no_more : (k : ℕ) → More k k 0
no_more k D h = omega arith

some_more : (k n : ℕ) → More k ((k + n) % 2 ^ 64) n
some_more k n D h = omega arith

-- what an answer adds
pub record Adds (h after : InputHealthCounters) (a : Answer) : Type 0 where
  pub dropped : More h.dropped_packets after.dropped_packets (dropped_by a)
  pub gaps : More h.gaps_detected after.gaps_detected (gap_by a)
  pub malformed : More h.malformed_packets after.malformed_packets (malformed_by a)

none_more : (b a n : ℕ) → a ≡ b → n ≡ 0 → More b a n
none_more b a n e z D h = omega arith

-- nothing, where no count moves
adds_none : (h after : InputHealthCounters) (a : Answer) → after ≡ h → dropped_by a ≡ 0 → gap_by a ≡ 0 → malformed_by a ≡ 0 → Adds h after a
adds_none h after a e d g m =
    record {
      dropped = none_more _ _ _ (ap (λ (x : InputHealthCounters). x.dropped_packets) e) d;
      gaps = none_more _ _ _ (ap (λ (x : InputHealthCounters). x.gaps_detected) e) g;
      malformed = none_more _ _ _ (ap (λ (x : InputHealthCounters). x.malformed_packets) e) m;
    }

event-adds : (h : InputHealthCounters) (event : SeqEvent) (missing : ℕ) → Adds h (counted event h) (heard event missing)
unfolding counted
event-adds h InOrder missing = adds_none h h (heard InOrder missing) refl refl refl refl
event-adds h (Gap k) missing =
    record { dropped = some_more h.dropped_packets k; gaps = some_more h.gaps_detected 1; malformed = no_more h.malformed_packets }
event-adds h Stale missing = adds_none h h (heard Stale missing) refl refl refl refl
event-adds h Restart missing =
    record { dropped = no_more h.dropped_packets; gaps = some_more h.gaps_detected 1; malformed = no_more h.malformed_packets }

malformed-adds : (h : InputHealthCounters) (a : Answer) → dropped_by a ≡ 0 → gap_by a ≡ 0 → malformed_by a ≡ 1 → Adds h (count_malformed h) a
malformed-adds h a d g m =
    record {
      dropped = none_more _ _ _ refl d;
      gaps = none_more _ _ _ refl g;
      malformed = λ D e. rw m (some_more h.malformed_packets 1 D e);
    }

abbrev pub health_of : State → InputHealthCounters
health_of st = st.session.common.health

-- ---- call by call

module _ (h : InputHealthCounters) where
  abbrev pub Right : Step State → Type 0
  Right x = Adds h (health_of x.state) x.reply.answer

  abbrev RightBy : Step Session → Type 0
  RightBy x = Adds h x.state.common.health x.reply.answer

  passed-adds : (s : Session) (now : ℕ) (d : List ℕ) → s.common.health ≡ h → RightBy (passed s now d)
  unfolding passed stall_soft stall_hard
  passed-adds s now d e =
      pick-either _ _ _ RightBy (λ _. adds_none h _ _ e refl refl refl) λ _.
      pick-either _ _ _ RightBy (λ _. adds_none h _ _ e refl refl refl) λ _.
      pick-either _ _ _ RightBy (λ _. adds_none h _ _ e refl refl refl) λ _.
      adds_none h _ _ (ap (λ (c : Common). c.health) (due-steady now s.common).kept ∙ e) refl refl refl

  module _ (st : State) (e : health_of st ≡ h) (i : Incoming) (d : List ℕ) where
    iq-adds : (count : ℕ) → Right (heard_iq st i d count)
    unfolding heard_iq heard_as hear
    iq-adds count = pick-either _ _ _ Right (λ _. heard-adds _ _) (λ _. heard-adds _ _)
      where
        heard-adds : (event : SeqEvent) (missing : ℕ) → Adds h (counted event (health_of st)) (heard event missing)
        heard-adds event missing = rw e (event-adds h event missing)

    overload-adds : (a : Option Controller) (bits : Told.Told) → RightBy (overload st.session i d a bits)
    unfolding overload
    overload-adds None bits = adds_none h _ _ e refl refl refl
    overload-adds (Some controller) (gives []) = adds_none h _ _ e refl refl refl
    overload-adds (Some controller) (gives (bits ∷ vs)) = adds_none h _ _ (ap (λ (c : Common). c.health) (stepped-steady i.later _ _).kept ∙ e) refl refl refl
    overload-adds (Some controller) (refused k vs) = adds_none h _ _ e refl refl refl

    broken-adds : RightBy (heard_malformed st.session d)
    unfolding heard_malformed with_one_more
    broken-adds = pick-either _ _ _ RightBy (λ _. one-adds _ refl refl refl) (λ _. one-adds _ refl refl refl)
      where
        one-adds : (a : Answer) → dropped_by a ≡ 0 → gap_by a ≡ 0 → malformed_by a ≡ 1 → Adds h (count_malformed (health_of st)) a
        one-adds a x y z = rw e (malformed-adds h a x y z)

    arrived-adds : (p : Routed) → Right (arrived st i d p)
    unfolding arrived heard_status
    arrived-adds (iq count) = iq-adds count
    arrived-adds status = overload-adds _ _
    arrived-adds ignored = adds_none h _ _ e refl refl refl
    arrived-adds malformed = broken-adds

answered-adds : (st : State) (c : Call) → Right (health_of st) (answered st c)
unfolding hand_out handed stop take_missing take_discontinuity take_stalled
answered-adds st (Begin now) = adds_none _ _ _ refl refl refl refl
answered-adds st (Pass now d) = passed-adds (health_of st) (at_reading st.session now) now d refl
answered-adds st (Arrival i d) = arrived-adds (health_of st) (at_later st i.later) refl i d (route st i)
answered-adds st (Take now buffer) = adds_none _ _ _ refl refl refl refl
answered-adds st (Close d) = adds_none _ _ _ (ap (λ (c : Common). c.health) (stop-steady st.session.common).kept) refl refl refl
answered-adds st TakeMissing = adds_none _ _ _ refl refl refl refl
answered-adds st TakeDiscontinuity = adds_none _ _ _ refl refl refl refl
answered-adds st TakeStalled = adds_none _ _ _ refl refl refl refl

pub step-adds : (st : State) (c : Call) → Right (health_of st) (step st c)
step-adds st c = step-either (Right (health_of st)) st c (λ k. adds_none _ _ _ refl refl refl refl) (λ _. answered-adds st c)

-- ---- over a list

module _ (samples : List Float) (count : State → ℕ) (told : Answer → ℕ) (one : (st : State) (c : Call) → More (count st) (count (step st c).state) (told (step st c).reply.answer)) where
  pub sums : (st : State) (calls : List Call) → More (count st) (count (final (session samples) st calls)) (total told (trace (session samples) st calls))
  sums st [] D h = none_more _ _ 0 refl refl D h
  sums st (c ∷ cs) D h =
      let k = told (step st c).reply.answer in
      let rest = total told (trace (session samples) (step st c).state cs) in
      sums (step st c).state cs (D + k) (one st c D h) ∙ ap (λ (n : ℕ). n % 2 ^ 64) (assoc D k rest)
    where
      assoc : (a b c : ℕ) → a + b + c ≡ a + (b + c)
      assoc a b c = omega arith
