-- Every call lists what is due, and a Pass tells a stall exactly where its time has passed, over every list of calls. Assumes nothing.
use Rattle.std.specs.Prelude.{Option, Some, None}
use Rattle.attenuator.specs.declared.Controller.{Controller}
use Rattle.std.proofs.Common.{◌≡◌, ℕ, ◌+◌, ◌-◌, max, Bool, true, false, not, ◌&&◌, ◌||◌, ltb, leb, List, [], ◌∷◌, sym, refl, ap, ◌∙◌, subst, arith}
use lib.Ieee.{Float}
use Rattle.base.specs.Pick.{pick}
use Rattle.base.specs.Told.{Told, gives, refused}
use Rattle.base.proofs.Picks.{pick-t, pick-f, pick-either}
use Rattle.base.proofs.Rows.{NoRow}
use Rattle.attenuator.specs.Controller as Controller
use Rattle.stall.specs.Episode.{is_due}
use Rattle.wire.specs.Status.{overload_told, overloaded}
use Rattle.model.specs.Answer.{ready, sent, done, tells}
use Rattle.model.specs.Routing.{Routed, iq, status, ignored, malformed}
use Rattle.model.specs.Host.{Incoming, Call, Begin, Pass, Arrival, Take, Close, TakeMissing, TakeDiscontinuity, TakeStalled, Step, trace}
use Rattle.std.specs.Option.{unwrap_or}
use Rattle.model.specs.State.{State, left, waits, is_open, quiet_since_of, at_reading, replied, keeping}
use Rattle.model.specs.Table.{rows_of}
use Rattle.tuning.specs.Rate.{khz_of}
use Rattle.model.specs.Sending.{send, stop_packets, due_packets, wrote}
use Rattle.model.specs.Open.{new_common, new_receiver, new_session}
use Rattle.model.specs.Begin.{or_at, begun_by}
use Rattle.model.specs.Pass.{stall_soft, stall_hard, passed}
use Rattle.model.specs.Hearing.{left_out, accepted_by}
use Rattle.model.specs.Arrival.{hear, heard_as, heard_iq, overload, heard_status, with_one_more, heard_malformed, arrived, at_later, route}
use Rattle.model.specs.Take.{handed, hand_out, handable}
use Rattle.model.specs.Close.{stop}
use Rattle.model.specs.Drain.{take_missing, take_discontinuity, take_stalled}
use Rattle.model.specs.Session.{step, answered, session}
use Rattle.model.specs.Timely.{Watch, woken, by_pass, soft_due, hard_due, hearing, heard_streams, step_streams, step_clocks, serving, watched_route, watched, OnTime, AllOnTime, Timely}
use Rattle.model.specs.declared.session.Clocks.{Clocks}
use Rattle.model.specs.declared.session.Session.{Session}
use Rattle.model.specs.declared.settings.Settings.{Settings}
use Rattle.model.proofs.Refusals.{refusal, step-either}
use Rattle.model.proofs.Opens.{opened-new, fixed-step}
use Rattle.model.proofs.Due.{due-is, stepped-steps}

-- ---- the watch of a session: all but the read's anchor, which a closed read has lost

abbrev pub watch_of : ℕ → State → Watch
watch_of anchor st =
    let c = st.session.common in
    let r = st.session.receiver in
    record {
      clocks = c.clocks;
      attenuation = c.attenuation;
      valid = r.last_valid_iq;
      wait = r.reading.wait_entered;
      anchor = anchor;
      delivering = r.stall.delivering;
      waiting = left r;
    }

-- with other clocks and another attenuator
abbrev sending_watch : Watch → Clocks → Option Controller → Watch
sending_watch w k x =
    record { clocks = k; attenuation = x; valid = w.valid; wait = w.wait; anchor = w.anchor; delivering = w.delivering; waiting = w.waiting }

sending-same : (w : Watch) {k l : Clocks} {x y : Option Controller} → k ≡ l → x ≡ y → sending_watch w k x ≡ sending_watch w l y
sending-same w p q = rw (p, q) refl

abbrev pub Anchored : ℕ → State → Type 0
Anchored anchor st = is_open st.session.receiver ≡ true → unwrap_or st.session.receiver.reading.entered 0 ≡ anchor

-- what a call gave: the watch after it is that of the session after it, and it was on time
pub record Fine (s : Settings) (w : Watch) (c : Call) (x : Step State) : Type 0 where
  pub anchor : ℕ
  pub next : watched s w c (tells x.reply.answer) ≡ watch_of anchor x.state
  pub anchored : Anchored anchor x.state
  pub ontime : OnTime s w c x.reply

module _ (st : State) (a : ℕ) (h : Anchored a st) where
  abbrev pub set : Settings
  set = st.session.common.settings

  abbrev pub w : Watch
  w = watch_of a st

  refused-fine : (c : Call) (k : ℕ) → Fine set w c (refusal st c k)
  unfolding pick
  refused-fine c k =
      record {
        anchor = a;
        next = refl;
        anchored = h;
        ontime = record { lists = refl; right = λ e. let z : ◌≡◌ {A = ℕ} 0 1 = cc in absurd (omega arith) };
      }

  begin-fine : (now : ℕ) → Fine set w (Begin now) (answered st (Begin now))
  unfolding begun_by left pick
  begin-fine now = record { anchor = unwrap_or (or_at st.session.receiver.reading.wait_entered now) 0; next = refl; anchored = λ _. refl; ontime = record { lists = refl; right = λ _. tt } }

  take-fine : (now : ℕ) (buffer : List Float) → Fine set w (Take now buffer) (answered st (Take now buffer))
  unfolding hand_out handed left pick
  take-fine now buffer =
      record {
        anchor = a;
        next = ap (serving w true) (less 238 st.session.receiver.queue_pos (handable st buffer));
        anchored = λ e. let z : ◌≡◌ {A = ℕ} 0 1 = cc in absurd (omega arith);
        ontime = record { lists = refl; right = λ _. tt };
      }
    where
      less : (n q k : ℕ) → n - q - k ≡ n - (q + k)
      less n q k = omega arith

  close-fine : (d : List ℕ) → Fine set w (Close d) (answered st (Close d))
  unfolding stop stop_packets send pick
  close-fine d = record { anchor = a; next = refl; anchored = h; ontime = record { lists = refl; right = λ _. tt } }

  missing-fine : Fine set w TakeMissing (answered st TakeMissing)
  unfolding take_missing left pick
  missing-fine = record { anchor = a; next = refl; anchored = h; ontime = record { lists = refl; right = λ _. tt } }

  discontinuity-fine : Fine set w TakeDiscontinuity (answered st TakeDiscontinuity)
  unfolding take_discontinuity left pick
  discontinuity-fine = record { anchor = a; next = refl; anchored = h; ontime = record { lists = refl; right = λ _. tt } }

  stalled-fine : Fine set w TakeStalled (answered st TakeStalled)
  unfolding take_stalled left pick
  stalled-fine = record { anchor = a; next = refl; anchored = h; ontime = record { lists = refl; right = λ _. tt } }

  -- ---- Pass

  module _ (now : ℕ) (d : List ℕ) (reads : is_open st.session.receiver ≡ true) where
    abbrev pub at : Session
    at = at_reading st.session now

    quiet_is : quiet_since_of at.receiver ≡ max w.valid w.anchor
    unfolding quiet_since_of
    quiet_is = ap (max w.valid) (h reads)

    waits-is : waits at.receiver ≡ ltb 0 w.waiting
    unfolding waits
    waits-is = refl

    soft-is : is_due at.receiver.stall (quiet_since_of at.receiver) now set.soft_after set.stall_after ≡ soft_due set w now
    unfolding is_due
    soft-is = ap (λ (q : ℕ). w.delivering && ltb set.soft_after set.stall_after && leb set.soft_after (now - q)) quiet_is

    hard-is : leb set.stall_after (now - quiet_since_of at.receiver) ≡ hard_due set w now
    hard-is = ap (λ (q : ℕ). leb set.stall_after (now - q)) quiet_is

    -- which of the four it is
    module _ {A : Type 0} (x y z u : A) where
      pub is-waits : waits at.receiver ≡ true → by_pass set w now x y z u ≡ x
      is-waits e = pick-t _ _ _ (sym waits-is ∙ e)

      module _ (e : waits at.receiver ≡ false) where
        pub is-soft : is_due at.receiver.stall (quiet_since_of at.receiver) now set.soft_after set.stall_after ≡ true → by_pass set w now x y z u ≡ y
        is-soft f = pick-f _ _ _ (sym waits-is ∙ e) ∙ pick-t _ _ _ (sym soft-is ∙ f)

        module _ (f : is_due at.receiver.stall (quiet_since_of at.receiver) now set.soft_after set.stall_after ≡ false) where
          pub is-hard : leb set.stall_after (now - quiet_since_of at.receiver) ≡ true → by_pass set w now x y z u ≡ z
          is-hard g = pick-f _ _ _ (sym waits-is ∙ e) ∙ pick-f _ _ _ (sym soft-is ∙ f) ∙ pick-t _ _ _ (sym hard-is ∙ g)

          pub is-sent : leb set.stall_after (now - quiet_since_of at.receiver) ≡ false → by_pass set w now x y z u ≡ u
          is-sent g = pick-f _ _ _ (sym waits-is ∙ e) ∙ pick-f _ _ _ (sym soft-is ∙ f) ∙ pick-f _ _ _ (sym hard-is ∙ g)

    abbrev Passes : Step Session → Type 0
    Passes x = Fine set w (Pass now d) (keeping st.samples x)

    -- each of the four, where it is the one
    abbrev pub soft_test : Bool
    soft_test = is_due at.receiver.stall (quiet_since_of at.receiver) now set.soft_after set.stall_after

    abbrev pub hard_test : Bool
    hard_test = leb set.stall_after (now - quiet_since_of at.receiver)

    waits-fine : waits at.receiver ≡ true → Passes (replied (done ready) [] d [] at)
    unfolding left pick
    waits-fine e =
        record {
          anchor = a;
          next = is-waits _ _ _ _ e;
          anchored = h;
          ontime = record { lists = sym (is-waits _ _ _ _ e); right = λ _. ap done (sym (is-waits _ _ _ _ e)) };
        }

    soft-fine : waits at.receiver ≡ false → soft_test ≡ true → Passes (stall_soft at d)
    unfolding stall_soft left pick
    soft-fine e f =
        record {
          anchor = a;
          next = is-soft _ _ _ _ e f;
          anchored = λ o. let z : ◌≡◌ {A = ℕ} 0 1 = cc in absurd (omega arith);
          ontime = record { lists = sym (is-soft _ _ _ _ e f); right = λ _. ap done (sym (is-soft _ _ _ _ e f)) };
        }

    hard-fine : waits at.receiver ≡ false → soft_test ≡ false → hard_test ≡ true → Passes (stall_hard at d)
    unfolding stall_hard left pick
    hard-fine e f g =
        record {
          anchor = a;
          next = is-hard _ _ _ _ e f g;
          anchored = λ o. let z : ◌≡◌ {A = ℕ} 0 1 = cc in absurd (omega arith);
          ontime = record { lists = sym (is-hard _ _ _ _ e f g); right = λ _. ap done (sym (is-hard _ _ _ _ e f g)) };
        }

    sent-fine : waits at.receiver ≡ false → soft_test ≡ false → hard_test ≡ false → Passes (wrote (done sent) at d (due_packets now at.common))
    unfolding left pick
    sent-fine e f g =
        let due = due-is now at.common in
        record {
          anchor = a;
          next = is-sent _ _ _ _ e f g ∙ sending-same w (sym due.clocks) (sym due.attenuation);
          anchored = h;
          ontime = record { lists = due.streams ∙ sym (is-sent _ _ _ _ e f g); right = λ _. ap done (sym (is-sent _ _ _ _ e f g)) };
        }

    pass-fine : Passes (passed at now d)
    unfolding passed
    pass-fine =
        pick-either (waits at.receiver) (replied (done ready) [] d [] at) _ Passes waits-fine λ e.
        pick-either soft_test (stall_soft at d) _ Passes (soft-fine e) λ f.
        pick-either hard_test (stall_hard at d) _ Passes (hard-fine e f) λ g.
        sent-fine e f g

  -- ---- Arrival, by what the datagram is

  module _ (i : Incoming) (d : List ℕ) where
    abbrev pub then : State
    then = at_later st i.later

    -- as Fine, of an arrival that is routed so
    record FineAt (p : Routed) (x : Step State) : Type 0 where
      pub given : (tells x.reply.answer).refusal ≡ false
      pub next : watched_route w i (tells x.reply.answer).event p ≡ watch_of a x.state
      pub anchored : Anchored a x.state
      pub lists : x.reply.streams ≡ heard_streams w i p

    abbrev heard_watch : ℕ → Watch
    heard_watch n =
        record { clocks = w.clocks; attenuation = w.attenuation; valid = i.now; wait = None; anchor = a; delivering = w.delivering; waiting = n }

    iq-fine : (count : ℕ) → FineAt (iq count) (heard_iq then i d count)
    unfolding heard_iq heard_as hear left_out accepted_by left
    iq-fine count =
        pick-either _ _ _ (FineAt (iq count))
        (λ e. record { given = refl; next = ap heard_watch (pick-t _ _ _ e); anchored = h; lists = refl })
        (λ e. record { given = refl; next = ap heard_watch (pick-f _ _ _ e); anchored = h; lists = refl })

    -- what a status packet gave, the attenuator being this
    record Heard (attenuation : Option Controller) (bits : Told) (x : Step Session) : Type 0 where
      pub next : sending_watch w (step_clocks w.clocks (hearing attenuation bits i.now) i.later) (hearing attenuation bits i.now).attenuation ≡ watch_of a (keeping st.samples x).state
      pub anchored : Anchored a (keeping st.samples x).state
      pub lists : x.reply.streams ≡ step_streams (hearing attenuation bits i.now)
      pub given : (tells x.reply.answer).refusal ≡ false

    overload-fine : (x : Option Controller) (bits : Told) → w.attenuation ≡ x → Heard x bits (overload then.session i d x bits)
    unfolding overload left pick
    overload-fine None bits e = record { next = ap (sending_watch w w.clocks) (sym e); anchored = h; lists = refl; given = refl }
    overload-fine (Some controller) (gives []) e = record { next = ap (sending_watch w w.clocks) (sym e); anchored = h; lists = refl; given = refl }
    overload-fine (Some controller) (gives (bits ∷ vs)) e =
        let made = stepped-steps i.later (Controller.observed controller (overloaded bits) i.now) then.session.common in
        record { next = sending-same w (sym made.clocks) (sym made.attenuation); anchored = h; lists = made.streams; given = refl }
    overload-fine (Some controller) (refused k vs) e = record { next = ap (sending_watch w w.clocks) (sym e); anchored = h; lists = refl; given = refl }

    status-fine : FineAt status (keeping st.samples (heard_status then.session i d))
    unfolding heard_status
    status-fine =
        let x = overload-fine w.attenuation (overload_told i.octets) refl in
        record { given = x.given; next = x.next; anchored = x.anchored; lists = x.lists }

    malformed-fine : FineAt malformed (keeping st.samples (heard_malformed then.session d))
    unfolding heard_malformed with_one_more left
    malformed-fine =
        pick-either _ _ _ (λ (x : Step Session). FineAt malformed (keeping st.samples x))
        (λ _. record { given = refl; next = refl; anchored = λ e. let z : ◌≡◌ {A = ℕ} 0 1 = cc in absurd (omega arith); lists = refl })
        (λ _. record { given = refl; next = refl; anchored = h; lists = refl })

    arrived-fine : (p : Routed) → FineAt p (arrived then i d p)
    unfolding arrived left
    arrived-fine (iq count) = iq-fine count
    arrived-fine status = status-fine
    arrived-fine ignored = record { given = refl; next = refl; anchored = h; lists = refl }
    arrived-fine malformed = malformed-fine

    arrival-fine : Fine set w (Arrival i d) (answered st (Arrival i d))
    arrival-fine =
        let x = arrived-fine (route st i) in
        record {
          anchor = a;
          next = pick-f _ _ _ x.given ∙ x.next;
          anchored = x.anchored;
          ontime = record { lists = x.lists ∙ sym (pick-f _ _ _ x.given); right = λ _. tt };
        }

  -- ---- every call

  -- 10 does not apply: a read is open
  pub open-read : (closed reads : Bool) → (closed || not reads) ≡ false → reads ≡ true
  open-read true reads e = let z : ◌≡◌ {A = ℕ} 0 1 = cc in absurd (omega arith)
  open-read false true e = refl
  open-read false false e = let z : ◌≡◌ {A = ℕ} 0 1 = cc in absurd (omega arith)

  answered-fine : (c : Call) → NoRow (rows_of st c) → Fine set w c (answered st c)
  answered-fine (Begin now) n = begin-fine now
  answered-fine (Pass now d) n = pass-fine now d (open-read st.session.common.closed (is_open st.session.receiver) n.0)
  answered-fine (Arrival i d) n = arrival-fine i d
  answered-fine (Take now buffer) n = take-fine now buffer
  answered-fine (Close d) n = close-fine d
  answered-fine TakeMissing n = missing-fine
  answered-fine TakeDiscontinuity n = discontinuity-fine
  answered-fine TakeStalled n = stalled-fine

  pub step-fine : (c : Call) → Fine set w c (step st c)
  step-fine c = step-either (Fine set w c) st c (refused-fine c) (answered-fine c)

-- ---- over a list

module _ (samples : List Float) (s : Settings) where
  all-on-time : (st : State) (a : ℕ) → st.session.common.settings ≡ s → Anchored a st → (calls : List Call) → AllOnTime s (watch_of a st) calls (trace (session samples) st calls)
  all-on-time st a e h [] = tt
  all-on-time st a e h (c ∷ cs) =
      let f = subst (λ (x : Settings). Fine x (watch_of a st) c (step st c)) e (step-fine st a h c) in
      let rest = all-on-time (step st c).state f.anchor ((fixed-step st c).settings ∙ e) f.anchored cs in
      (f.ontime, subst (λ (w : Watch). AllOnTime s w cs (trace (session samples) (step st c).state cs)) (sym f.next) rest)

  module _ (now : ℕ) (calls : List Call) where
    abbrev new : State
    new = record { session = new_session (khz_of s.sample_rate_hz) s now; samples = samples }

    new-on-time : AllOnTime s (woken s now) calls (trace (session samples) new calls)
    unfolding new_session new_common new_receiver left
    new-on-time = all-on-time new 0 refl (λ e. let z : ◌≡◌ {A = ℕ} 0 1 = cc in absurd (omega arith)) calls

pub timely : (samples : List Float) → Timely (session samples)
timely samples s now calls ok =
    subst (λ (x : Session). AllOnTime s (woken s now) calls (trace (session samples) (record { session = x; samples = samples }) calls))
    (sym (opened-new s now ok))
    (new-on-time samples s now calls)
