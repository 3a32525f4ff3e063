-- What the drains returned and what still pends is the missing that was told, slot by slot, over every list of calls. Assumes nothing.
use Rattle.std.specs.Prelude.{Option, Some, None}
use Rattle.attenuator.specs.declared.Controller.{Controller}
use Rattle.std.proofs.Common.{◌≡◌, ℕ, ◌+◌, ◌≤◌, Bool, true, false, List, [], ◌∷◌, refl, ap, ◌∙◌, arith}
use lib.Ieee.{Float}
use Rattle.base.specs.Pick.{pick}
use Rattle.base.specs.Told.{gives, refused}
use Rattle.base.specs.Told as Told
use Rattle.base.proofs.Picks.{pick-t, pick-f, pick-either}
use Rattle.double.specs.Whole.{most}
use Rattle.sequence.specs.declared.SeqEvent.{SeqEvent}
use Rattle.sequence.specs.declared.SeqEvent.TheVariants.{InOrder, Gap, Stale, Restart}
use Rattle.model.specs.Answer.{Answer, heard}
use Rattle.model.specs.Routing.{Routed, iq, status, ignored, malformed}
use Rattle.model.specs.Host.{Incoming, Call, Begin, Pass, Arrival, Take, Close, TakeMissing, TakeDiscontinuity, TakeStalled, Step, trace, final}
use Rattle.model.specs.State.{State, at_reading}
use Rattle.model.specs.Pass.{stall_soft, stall_hard, passed}
use Rattle.model.specs.Rules.{added, missing_of, pending_after, is_stale}
use Rattle.model.specs.Begin.{begun_by}
use Rattle.model.specs.Hearing.{left_out, accepted_by}
use Rattle.model.specs.Arrival.{hear, heard_as, heard_iq, overload, heard_status, heard_malformed, arrived, at_later, route}
use Rattle.model.specs.Take.{handed, hand_out}
use Rattle.model.specs.Close.{stop}
use Rattle.model.specs.Drain.{take_missing, take_discontinuity, take_stalled}
use Rattle.model.specs.Session.{step, answered, session}
use Rattle.std.specs.Option.{unwrap_or}
use Rattle.model.specs.Counted.{to_missing, to_discontinuity, total, held_by, drains_missing, drains_discontinuity, drained}
use Rattle.model.specs.declared.receiver.Pending.{Pending}
use Rattle.model.specs.declared.session.Session.{Session}
use Rattle.model.specs.declared.settings.Settings.{Settings}
use Rattle.model.proofs.Refusals.{step-either}
use Rattle.model.proofs.Opens.{fixed-step}

-- ---- the slots: what was drained and what still pends is what was told

-- a slot that held so much, to which so much was told and from which so much was drained, where it does not saturate
abbrev pub Flow : ℕ → ℕ → ℕ → ℕ → Type 0
Flow before after told out = before + told ≤ most → out + after ≡ before + told

pub record Moves (rate : Float) (p after : Pending) (c : Call) (a : Answer) : Type 0 where
  pub missing : Flow (unwrap_or p.missing 0) (unwrap_or after.missing 0) (to_missing rate a) (pick (drains_missing c) (held_by a) 0)
  pub discontinuity : Flow (unwrap_or p.discontinuity 0) (unwrap_or after.discontinuity 0) (to_discontinuity rate a) (pick (drains_discontinuity c) (held_by a) 0)

flow-none : (n told out : ℕ) → told ≡ 0 → out ≡ 0 → Flow n n told out
flow-none n told out t o h = omega arith

flow-out : (n told : ℕ) → told ≡ 0 → Flow n 0 told n
flow-out n told t h = omega arith

none_out : (b : Bool) (n : ℕ) → n ≡ 0 → pick b n 0 ≡ 0
unfolding pick
none_out true n e = e
none_out false n e = refl

-- neither slot moves, and the answer tells of none
moves-none : (rate : Float) (p after : Pending) (c : Call) (a : Answer) → after ≡ p → to_missing rate a ≡ 0 → to_discontinuity rate a ≡ 0 → held_by a ≡ 0 → Moves rate p after c a
moves-none rate p after c a e m d h =
    rw e
    (record {
      missing = flow-none (unwrap_or p.missing 0) _ _ m (none_out (drains_missing c) _ h);
      discontinuity = flow-none (unwrap_or p.discontinuity 0) _ _ d (none_out (drains_discontinuity c) _ h);
    })

-- n more in a slot
held_more : (x : Option ℕ) (n : ℕ) → unwrap_or x 0 + n ≤ most → unwrap_or (added x n) 0 ≡ unwrap_or x 0 + n
unfolding added
held_more None n h = omega arith
held_more (Some m) n h = omega arith

flow-held : (x : Option ℕ) (n told out : ℕ) → told ≡ n → out ≡ 0 → Flow (unwrap_or x 0) (unwrap_or (added x n) 0) told out
flow-held x n told out t o h = let more = held_more x n (omega arith) in omega arith

-- an arrival's event: what it misses goes to one of the slots
module _ (rate : Float) (p : Pending) (c : Call) where
  abbrev Goes : SeqEvent → ℕ → Pending → Type 0
  Goes event missing after = Moves rate p after c (heard event missing)

  untold : (b : Bool) → ◌≡◌ {A = ℕ} (pick b 0 0) 0
  untold b = none_out b 0 refl

  gap-moves : (k missing : ℕ) → Goes (Gap k) missing (pending_after rate (Gap k) missing p)
  unfolding pending_after
  gap-moves k missing =
      pick-either _ _ _ (Goes (Gap k) missing)
      (λ e.
      record {
        missing = flow-held p.missing missing _ _ (pick-t _ _ _ e) (untold (drains_missing c));
        discontinuity = flow-none (unwrap_or p.discontinuity 0) _ _ (pick-t _ _ _ e) (untold (drains_discontinuity c));
      })
      (λ e.
      record {
        missing = flow-none (unwrap_or p.missing 0) _ _ (pick-f _ _ _ e) (untold (drains_missing c));
        discontinuity = flow-held p.discontinuity missing _ _ (pick-f _ _ _ e) (untold (drains_discontinuity c));
      })

  event-moves : (event : SeqEvent) (restart : ℕ) → Goes event (missing_of event restart) (pending_after rate event (missing_of event restart) p)
  unfolding missing_of pending_after pick
  event-moves InOrder restart = moves-none rate p p c (heard InOrder 0) refl refl refl refl
  event-moves (Gap k) restart = gap-moves k _
  event-moves Stale restart = moves-none rate p p c (heard Stale 0) refl refl refl refl
  event-moves Restart restart =
      record {
        missing = flow-none (unwrap_or p.missing 0) _ _ refl (untold (drains_missing c));
        discontinuity = flow-held p.discontinuity restart _ _ refl (untold (drains_discontinuity c));
      }

abbrev pub pending_of : State → Pending
pending_of st = st.session.receiver.pending

abbrev pub rate_of : State → Float
rate_of st = st.session.common.settings.sample_rate_hz

module _ (rate : Float) (p : Pending) (c : Call) where
  abbrev pub Slots : Step State → Type 0
  Slots x = Moves rate p (pending_of x.state) c x.reply.answer

  abbrev SlotsBy : Step Session → Type 0
  SlotsBy x = Moves rate p x.state.receiver.pending c x.reply.answer

  passed-moves : (s : Session) (now : ℕ) (d : List ℕ) → s.receiver.pending ≡ p → SlotsBy (passed s now d)
  unfolding passed stall_soft stall_hard
  passed-moves s now d e =
      pick-either _ _ _ SlotsBy (λ _. moves-none rate p _ c _ e refl refl refl) λ _.
      pick-either _ _ _ SlotsBy (λ _. moves-none rate p _ c _ e refl refl refl) λ _.
      pick-either _ _ _ SlotsBy (λ _. moves-none rate p _ c _ e refl refl refl) λ _.
      moves-none rate p _ c _ e refl refl refl

  module _ (st : State) (r : rate_of st ≡ rate) (e : pending_of st ≡ p) (i : Incoming) (d : List ℕ) where
    heard-moves : (event : SeqEvent) (restart : ℕ) → Moves rate p (pending_after (rate_of st) event (missing_of event restart) (pending_of st)) c (heard event (missing_of event restart))
    heard-moves event restart = rw (r, e) (event-moves rate p c event restart)

    -- Stale leaves both slots, and misses nothing
    stale-moves : (event : SeqEvent) (restart : ℕ) → is_stale event ≡ true → Moves rate p (pending_of st) c (heard event (missing_of event restart))
    unfolding missing_of pick
    stale-moves Stale restart h = moves-none rate p (pending_of st) c (heard Stale 0) e refl refl refl
    stale-moves InOrder restart h = let z : ◌≡◌ {A = ℕ} 0 1 = cc in absurd (omega arith)
    stale-moves (Gap k) restart h = let z : ◌≡◌ {A = ℕ} 0 1 = cc in absurd (omega arith)
    stale-moves Restart restart h = let z : ◌≡◌ {A = ℕ} 0 1 = cc in absurd (omega arith)

    iq-moves : (count : ℕ) → Slots (heard_iq st i d count)
    unfolding heard_iq heard_as hear left_out accepted_by
    iq-moves count = pick-either _ _ _ Slots (λ h. stale-moves _ _ h) (λ _. heard-moves _ _)

    overload-moves : (a : Option Controller) (bits : Told.Told) → SlotsBy (overload st.session i d a bits)
    unfolding overload
    overload-moves None bits = moves-none rate p _ c _ e refl refl refl
    overload-moves (Some controller) (gives []) = moves-none rate p _ c _ e refl refl refl
    overload-moves (Some controller) (gives (bits ∷ vs)) = moves-none rate p _ c _ e refl refl refl
    overload-moves (Some controller) (refused k vs) = moves-none rate p _ c _ e refl refl refl

    broken-moves : SlotsBy (heard_malformed st.session d)
    unfolding heard_malformed
    broken-moves = pick-either _ _ _ SlotsBy (λ _. moves-none rate p _ c _ e refl refl refl) (λ _. moves-none rate p _ c _ e refl refl refl)

    arrived-moves : (q : Routed) → Slots (arrived st i d q)
    unfolding arrived heard_status
    arrived-moves (iq count) = iq-moves count
    arrived-moves status = overload-moves _ _
    arrived-moves ignored = moves-none rate p _ c _ e refl refl refl
    arrived-moves malformed = broken-moves

answered-moves : (st : State) (c : Call) → Slots (rate_of st) (pending_of st) c (answered st c)
unfolding hand_out handed stop take_missing take_discontinuity take_stalled begun_by pick
answered-moves st (Begin now) = moves-none _ _ _ _ _ refl refl refl refl
answered-moves st (Pass now d) = passed-moves _ _ (Pass now d) (at_reading st.session now) now d refl
answered-moves st (Arrival i d) = arrived-moves _ _ (Arrival i d) (at_later st i.later) refl refl i d (route st i)
answered-moves st (Take now buffer) = moves-none _ _ _ _ _ refl refl refl refl
answered-moves st (Close d) = moves-none _ _ _ _ _ refl refl refl refl
answered-moves st TakeMissing =
    record {
      missing = flow-out (unwrap_or (pending_of st).missing 0) 0 refl;
      discontinuity = flow-none (unwrap_or (pending_of st).discontinuity 0) 0 0 refl refl;
    }
answered-moves st TakeDiscontinuity =
    record {
      missing = flow-none (unwrap_or (pending_of st).missing 0) 0 0 refl refl;
      discontinuity = flow-out (unwrap_or (pending_of st).discontinuity 0) 0 refl;
    }
answered-moves st TakeStalled = moves-none _ _ _ _ _ refl refl refl refl

pub step-moves : (st : State) (c : Call) → Slots (rate_of st) (pending_of st) c (step st c)
step-moves st c =
    step-either (Slots (rate_of st) (pending_of st) c) st c (λ k. moves-none (rate_of st) (pending_of st) (pending_of st) c _ refl refl refl refl) (λ _. answered-moves st c)

-- ---- over a list

module _ (samples : List Float) (rate : Float) (held : State → ℕ) (told : Answer → ℕ) (drains : Call → Bool) (one : (st : State) (c : Call) → rate_of st ≡ rate → Flow (held st) (held (step st c).state) (told (step st c).reply.answer) (pick (drains c) (held_by (step st c).reply.answer) 0)) where
  pub flows : (st : State) (calls : List Call) → rate_of st ≡ rate → Flow (held st) (held (final (session samples) st calls)) (total told (trace (session samples) st calls)) (drained drains calls (trace (session samples) st calls))
  flows st [] r h = omega arith
  flows st (c ∷ cs) r h =
      let x = step st c in
      let t1 = told x.reply.answer in
      let t2 = total told (trace (session samples) x.state cs) in
      let here = one st c r (omega arith) in
      let rest = flows x.state cs (ap (λ (s : Settings). s.sample_rate_hz) (fixed-step st c).settings ∙ r) (omega arith) in
      omega arith
