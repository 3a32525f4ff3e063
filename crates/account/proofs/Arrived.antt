-- An arrival: the session tells what the book judges, and the two go on saying the same. Assumes nothing.
use Rattle.std.specs.Prelude.{Option, Some, None}
use Rattle.attenuator.specs.declared.Controller.{Controller}
use Prim.Native.Nat.{ℕ, ◌+◌, ◌-◌, ◌<◌}
use mathlib.Core.Path.{◌≡◌, refl, sym, ◌∙◌, ap, subst}
use mathlib.Core.Bool.{Bool, true, false}
use mathlib.Core.List.{List, [], ◌∷◌, append-nil}
use native.Mathlib.Omega.{arith}
use lib.IntN.{ℤ, pos, negsuc, ◌-ℤ◌}
use borrow.Author.Tests.{ltb-false}
use Rattle.base.proofs.Picks.{pick-either}
use Rattle.base.specs.Told.{Told, gives, refused}
use Rattle.sequence.specs.Tracker.{past, observed}
use Rattle.sequence.specs.declared.SeqEvent.{SeqEvent}
use Rattle.sequence.specs.declared.SeqEvent.TheVariants.{InOrder, Gap, Stale, Restart}
use Rattle.model.specs.Answer.{Answer, done, heard, tells}
use Rattle.model.specs.Answer as Answer
use Rattle.model.specs.declared.session.Common.{Common}
use Rattle.model.specs.declared.session.Session.{Session}
use Rattle.model.specs.Rules.{used, capped, missing_of, is_stale}
use Rattle.model.specs.Routing.{Routed, iq, status, ignored, malformed, routed}
use Rattle.model.specs.Host.{Incoming, Arrival, Step}
use Rattle.model.specs.State.{State, left, waits, waiting_in, keeping}
use Rattle.model.specs.Sample.{pairs}
use Rattle.iq.specs.Iq as Iq
use Rattle.model.specs.Hearing.{event_of, restart_of, left_out, accepted_by}
use Rattle.model.specs.Arrival.{without_packets, hear, heard_as, heard_iq, overload, heard_status, with_one_more, heard_malformed, arrived, at_later, route, arrival_accepted}
use Rattle.account.specs.Whole.{count_of, ahead, behind, fits, fits_below, verdict}
use Rattle.account.specs.Book.{Quiet, Came, brought, news, Book, fit_in, below_in, limit_in, restart_in, missing_in, booked}
use Rattle.account.specs.Ledger.{Entry, samples_of}
use Rattle.account.specs.Ledger as Ledger
use Rattle.base.specs.Each.{Each}
use Rattle.account.specs.Demand3.{NearIn, Lies}
use Rattle.account.specs.Exact.{verdict_in, Exact}
use Rattle.model.specs.declared.settings.Settings.{Settings}
use Rattle.account.proofs.Verdict.{Says, says, Rules, rules, stale-is}
use Rattle.account.proofs.Stretches.{Lost, Right, judged-of}
use Rattle.model.proofs.Pairs.{datagram-size, datagram-samples, none-past}
use Rattle.account.proofs.Same.{sent_as, waiting_of, Same, Kept, still}
use Rattle.model.proofs.Sends.{stepped-steady}
use Rattle.account.proofs.Observes.{past-sent, tells-in, accepted-tracker, stale-tracker}

-- ---- what an arrival misses

not-ahead : (d : ℤ) → 0 < behind d → ahead d ≡ 0
not-ahead (pos d) h = absurd (omega arith)
not-ahead (negsuc d) h = refl

missing-of : (e n : ℤ) (restart : ℕ) (ev : SeqEvent) (f b : Bool) → Says (n -ℤ e) ev f b → missing_of ev restart ≡ missing_in (Some e) f restart n
unfolding missing_of
missing-of e n restart InOrder f b s = rw (s.1, s.0) refl
missing-of e n restart (Gap k) f b s = rw (s.1, s.0.0) refl
missing-of e n restart Stale f b s = rw s.1 (omega (arith, not-ahead (n -ℤ e) s.0))
missing-of e n restart Restart f b s = rw s.1 refl

-- what the session tells missing is what the book says
missing-in : (o : Option ℤ) (lim run : ℕ) (n : ℤ) (restart : ℕ) → missing_of (verdict_in o lim run n) restart ≡ missing_in o (fit_in o lim run n) restart n
unfolding missing_of
missing-in None lim run n restart = refl
missing-in (Some e) lim run n restart = missing-of e n restart (verdict lim run e n) (fits lim run e n) (fits_below run e n) (says lim run e n)

lost-of : (ev : SeqEvent) (restart : ℕ) → Lost ev (missing_of ev restart)
unfolding missing_of
lost-of InOrder restart = refl
lost-of (Gap k) restart = refl
lost-of Stale restart = refl
lost-of Restart restart = tt

-- one more stale
one_more : (o : Option ℤ) (run : ℕ) → ◌≡◌ {A = Rattle.sequence.specs.declared.SeqTracker.SeqTracker} (record { expected = (sent_as o run).expected; stale_run = (sent_as o run).stale_run + 1 }) (sent_as o (run + 1))
one_more None run = refl
one_more (Some e) run = refl

-- ---- a valid I/Q datagram

module _ (s : Settings) (b : Book) (st : State) (n : ℤ) (h : Same s b st) (i : Incoming) (d : List ℕ) (empty : waiting_of st ≡ []) where
  abbrev ev : SeqEvent
  ev = verdict_in b.expected (limit_in s b i.now) b.run n

  abbrev the : Answer → ℕ → Entry
  the a count = record { book = b; incoming = i; count = count; number = n; says = tells a }

  -- the entry's own part of what is kept
  pub record Enters (count : ℕ) (x : Step State) : Type 0 where
    pub same : Same s (booked s b i n) x.state
    pub right : Right s (the x.reply.answer count)
    pub exact : Exact s b (Came i count) n (tells x.reply.answer)
    pub flow : waiting_of x.state ≡ samples_of (Ledger.accepted_in (the x.reply.answer count ∷ []))

  ruled : Rules ev (fit_in b.expected (limit_in s b i.now) b.run n) (below_in b.expected b.run n)
  ruled = rules b.expected (limit_in s b i.now) b.run n

  late_is : is_stale ev ≡ below_in b.expected b.run n
  late_is = stale-is ev _ _ ruled

  module _ (m : ℕ) (told : m ≡ missing_of ev (restart_in s b i n)) (count : ℕ) where
    right_of : Right s (the (heard ev m) count)
    right_of =
        record {
          told = judged-of s (the (heard ev m) count) refl;
          gone = rw told (lost-of ev (restart_in s b i n));
          whole = datagram-samples i.octets;
        }

    exact-of : Exact s b (Came i count) n (tells (heard ev m))
    exact-of = (refl, told ∙ missing-in b.expected (limit_in s b i.now) b.run n (restart_in s b i n))

  abbrev count : ℕ
  count = count_of n

  abbrev seen : SeqEvent
  seen = capped (limit_in s b i.now) (observed st.session.receiver.tracker count).event

  module _ (near : NearIn b.expected n) where
    -- the event is the book's
    seen-is : seen ≡ ev
    seen-is = rw h.tracker (tells-in b.expected (limit_in s b i.now) b.run n near)

    -- where it is accepted, so is the tracker
    tracker-is : is_stale ev ≡ false → (observed st.session.receiver.tracker count).tracker ≡ past count
    tracker-is f = accepted-tracker st.session.receiver.tracker (limit_in s b i.now) count (ap is_stale seen-is ∙ f)

    -- and what it misses: of a restart, by the tracker as the arrival left it
    missing-is : missing_of ev (restart_of s.sample_rate_hz (left_out st.session.receiver i.now count) i.now i.later i.waiting)
        ≡ missing_of ev (restart_in s b i n)
    unfolding missing_of restart_of left_out
    missing-is = go ev refl
      where
        go : (e : SeqEvent) → e ≡ ev → missing_of e (restart_of s.sample_rate_hz (left_out st.session.receiver i.now count) i.now i.later i.waiting)
            ≡ missing_of e (restart_in s b i n)
        go InOrder q = refl
        go (Gap k) q = refl
        go Stale q = refl
        go Restart q = rw (h.accepted_at, h.window, tracker-is (ap is_stale (sym q))) refl

    hears : (m : ℕ) → m ≡ missing_of ev (restart_in s b i n) → Enters count (hear st i d count ev m)
    unfolding hear accepted_by left_out waiting_in
    hears m told =
        pick-either _ _ _ (Enters count)
        -- stale
        (λ t.
        let below : below_in b.expected b.run n ≡ true = sym late_is ∙ t in
        record {
          same =
              rw below
              (record {
                settings = h.settings;
                tracker =
                    stale-tracker st.session.receiver.tracker (limit_in s b i.now) count (ap is_stale seen-is ∙ t)
                    ∙ rw h.tracker (one_more b.expected b.run);
                accepted_at = h.accepted_at;
                taken = h.taken;
                window = h.window;
                size = h.size;
              });
          right = right_of m told count;
          exact = exact-of m told count;
          flow = rw below empty;
        })
        -- accepted
        λ f.
        let below : below_in b.expected b.run n ≡ false = sym late_is ∙ f in
        record {
          same =
              rw below
              (record {
                settings = h.settings;
                tracker = tracker-is f ∙ past-sent n;
                accepted_at = refl;
                taken = h.taken;
                window = rw h.window (ap (λ (k : ℕ). used b.window k) (exact-of m told count).1);
                size = datagram-size i.octets;
              });
          right = right_of m told count;
          exact = exact-of m told count;
          flow = rw below (sym (append-nil (pairs (Iq.samples_of i.octets))));
        }

    event-is : event_of s.sample_rate_hz st.session.receiver i.now count ≡ ev
    unfolding event_of
    event-is = rw (h.accepted_at, h.window) seen-is

    heard-as : Enters count (heard_as st i d count ev)
    unfolding heard_as
    heard-as =
        hears _
        (ap
        (λ (x : Settings). missing_of ev (restart_of x.sample_rate_hz (left_out st.session.receiver i.now count) i.now i.later i.waiting))
        h.settings
        ∙ missing-is)

    enters : Enters count (heard_iq st i d count)
    unfolding heard_iq
    enters =
        let e : event_of st.session.common.settings.sample_rate_hz st.session.receiver i.now count ≡ ev
        = ap (λ (x : Settings). event_of x.sample_rate_hz st.session.receiver i.now count) h.settings ∙ event-is in
        subst (λ (v : SeqEvent). Enters count (heard_as st i d count v)) (sym e) heard-as

  -- with the count that the datagram holds
  pub enters-at : (k : ℕ) → count ≡ k → NearIn b.expected n → Enters k (heard_iq st i d k)
  enters-at k c near = subst (λ (j : ℕ). Enters j (heard_iq st i d j)) c (enters near)

-- ---- the arrival

abbrev found : Settings → Incoming → Routed
found s i = routed s.radio_ip s.port i.from i.octets

never-refused : (st : State) (i : Incoming) (d : List ℕ) (count : ℕ) → (tells (heard_iq st i d count).reply.answer).refusal ≡ false
unfolding heard_iq heard_as hear
never-refused st i d count = pick-either _ _ _ (λ (x : Step State). (tells x.reply.answer).refusal ≡ false) (λ _. refl) (λ _. refl)

module _ (s : Settings) (b : Book) (st : State) (n : ℤ) (h : Same s b st) (i : Incoming) (d : List ℕ) (empty : waiting_of st ≡ []) where
  iq-keeps : (k : ℕ) → found s i ≡ iq k → Kept s b st (Arrival i d) n (heard_iq st i d k)
  iq-keeps k p =
      record {
        keep = λ lies.
            let x = heard_iq st i d k in
            let w : news s (Arrival i d) (tells x.reply.answer).refusal ≡ Came i k = rw (never-refused st i d k, p) refl in
            let l : Each Lies (the s b st n h i d empty x.reply.answer k ∷ []) = rw w at lies in
            let e : Enters s b st n h i d empty k x = enters-at s b st n h i d empty k l.0.0 l.0.1 in
            record {
              same = rw w e.same;
              right = rw w (e.right, tt);
              also = rw w e.exact;
              flow = rw (w, empty) e.flow;
            };
      }

module _ (s : Settings) (b : Book) (st : State) (n : ℤ) (h : Same s b st) (i : Incoming) (d : List ℕ) where
  abbrev Fine : Step State → Type 0
  Fine = Kept s b st (Arrival i d) n

  -- of the session with the later reading, what is not I/Q is nothing to the book
  abbrev later : State
  later = at_later st i.later

  abbrev Mute : Step Session → Type 0
  Mute x = Fine (keeping st.samples x)

  module _ (quiet : (t : Bool) → news s (Arrival i d) t ≡ Quiet) where
    ignored-keeps : Mute (without_packets (done Answer.ignored) d later.session)
    ignored-keeps = still s b st n h (Arrival i d) _ (quiet false) refl refl refl h.settings refl refl refl refl refl refl

    status-keeps : (a : Option Controller) (bits : Told) → Mute (overload later.session i d a bits)
    unfolding overload
    status-keeps None bits = still s b st n h (Arrival i d) _ (quiet false) refl refl refl h.settings refl refl refl refl refl refl
    status-keeps (Some controller) (gives []) = still s b st n h (Arrival i d) _ (quiet false) refl refl refl h.settings refl refl refl refl refl refl
    status-keeps (Some controller) (refused k vs) = still s b st n h (Arrival i d) _ (quiet false) refl refl refl h.settings refl refl refl refl refl refl
    status-keeps (Some controller) (gives (bits ∷ vs)) =
        still s b st n h (Arrival i d) _ (quiet false) refl refl refl (ap (λ (c : Common). c.settings) (stepped-steady _ _ _).kept ∙ h.settings) refl refl refl refl refl refl

    malformed-keeps : Mute (heard_malformed later.session d)
    unfolding heard_malformed with_one_more
    malformed-keeps =
        pick-either _ _ _ Mute
        (λ _. still s b st n h (Arrival i d) _ (quiet false) refl refl refl h.settings refl refl refl refl refl refl)
        (λ _. still s b st n h (Arrival i d) _ (quiet false) refl refl refl h.settings refl refl refl refl refl refl)

  same-later : Same s b later
  same-later =
      record { settings = h.settings; tracker = h.tracker; accepted_at = h.accepted_at; taken = h.taken; window = h.window; size = h.size }

  quiet_of : (p : Routed) → found s i ≡ p → brought i p ≡ Quiet → (t : Bool) → news s (Arrival i d) t ≡ Quiet
  quiet_of p e q true = refl
  quiet_of p e q false = ap (brought i) e ∙ q

  routed-keeps : waiting_of st ≡ [] → (p : Routed) → found s i ≡ p → Fine (arrived later i d p)
  unfolding arrived heard_status
  routed-keeps empty (iq k) e =
      record {
        keep = λ lies.
            let x = (iq-keeps s b later n same-later i d empty k e).keep lies in
            record { same = x.same; right = x.right; also = x.also; flow = x.flow };
      }
  routed-keeps empty status e = status-keeps (quiet_of status e refl) _ _
  routed-keeps empty ignored e = ignored-keeps (quiet_of ignored e refl)
  routed-keeps empty malformed e = malformed-keeps (quiet_of malformed e refl)

  nothing-waits : waits st.session.receiver ≡ false → waiting_of st ≡ []
  unfolding waits left waiting_in
  nothing-waits e =
      let z = ltb-false 0 (238 - st.session.receiver.queue_pos) e in
      none-past st.session.receiver.queue_pos st.samples h.size (omega arith)

  pub arrival-keeps : waits st.session.receiver ≡ false → Fine (arrival_accepted st i d)
  arrival-keeps empty = routed-keeps (nothing-waits empty) (route st i) (ap (λ (x : Settings). found x i) (sym h.settings))
