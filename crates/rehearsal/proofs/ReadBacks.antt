-- What a session writes, the practice radio reads back, call by call and over every list of calls. Assumes nothing.
use Rattle.std.specs.Prelude.{Option, Some, None}
use Rattle.attenuator.specs.declared.Controller.{Controller}
use Prim.Native.Nat.{ℕ, zero, suc, ◌^◌, ◌<◌}
use mathlib.Core.Path.{◌≡◌, refl, sym, ap, ◌∙◌, subst}
use mathlib.Core.Bool.{true, false}
use mathlib.Core.List.{List, [], ◌∷◌, ◌++◌, append-nil}
use native.Mathlib.Omega.{arith}
use lib.Dec.{T}
use lib.ListN.{length, get_or, drop}
use lib.Ieee.{Float}
use Rattle.base.specs.Pick.{pick}
use Rattle.base.specs.Told.{Told, gives, refused}
use Rattle.base.proofs.Picks.{pick-f, pick-either}
use Rattle.base.proofs.Rows.{NoRow}
use Rattle.octets.specs.Written.{written}
use Rattle.octets.proofs.Writes.{written-front}
use Rattle.tuning.specs.Rate.{khz_of}
use Rattle.wire.specs.Status.{overload_told, overloaded}
use Rattle.attenuator.specs.Controller as Controller
use Rattle.model.specs.Answer.{ready, sent, done, tells}
use Rattle.model.specs.Settings.{accepts}
use Rattle.model.specs.Routing.{Routed, iq, status, ignored, malformed}
use Rattle.model.specs.Host.{Incoming, Call, Begin, Pass, Arrival, Take, Close, TakeMissing, TakeDiscontinuity, TakeStalled, Reply, Step, trace}
use Rattle.model.specs.State.{State, left, waits, is_open, at_reading, replied, keeping}
use Rattle.model.specs.Table.{rows_of}
use Rattle.model.specs.Sending.{Sending, stepped, due_packets, stop_packets, wrote}
use Rattle.model.specs.Open.{new_common, new_receiver, new_session}
use Rattle.model.specs.Begin.{begun_by}
use Rattle.model.specs.Pass.{stall_soft, stall_hard, passed}
use Rattle.model.specs.Arrival.{hear, heard_as, heard_iq, overload, heard_status, with_one_more, heard_malformed, arrived, at_later, route}
use Rattle.model.specs.Take.{handed, hand_out}
use Rattle.model.specs.Close.{stop}
use Rattle.model.specs.Drain.{take_missing, take_discontinuity, take_stalled}
use Rattle.model.specs.Session.{step, answered, session}
use Rattle.model.specs.Timely.{Watch, woken, hearing}
use Rattle.model.specs.declared.session.Common.{Common}
use Rattle.model.specs.declared.session.Session.{Session}
use Rattle.model.specs.declared.settings.Settings.{Settings}
use Rattle.model.proofs.Opens.{opened-new}
use Rattle.model.proofs.Refusals.{refusal, step-either}
use Rattle.model.proofs.Timely.{watch_of, Anchored, Fine, step-fine, open-read, is-waits, is-soft, is-hard, is-sent, soft_test, hard_test}
use Rattle.radio.specs.Answer.{Outcome}
use Rattle.radio.specs.State.{at_first}
use Rattle.radio.specs.Listen.{cut, received, after}
use Rattle.radio.specs.declared.state.Radio.{Radio}
use Rattle.rehearsal.specs.ReadBack.{Said, said_by_step, said_when_due, said_when_heard, said_by, outcomes, counts_after, all_said, all_heard, OfOctets, ReadBack}
use Rattle.rehearsal.proofs.Sayings.{Ready, Says, stepped-says, due-says, stop-says}

module _ (s : Settings) (ok : T (accepts s)) (oct : OfOctets s) where
  -- ---- packets that fill a buffer from its front

  wrote-reads : (c : Common) (out : Sending) (xs : List Said) (d : List ℕ) (r : Radio) → Says s c out xs → Ready s c
      → received r (cut out.streams (written d 0 out.octets)) ≡ outcomes s c.seq r xs
  unfolding cut received
  wrote-reads c out xs d r h q =
      let rest = drop (length out.octets) d in
      ap (λ (l : List ℕ). received r (cut out.streams l)) (written-front d out.octets (length out.octets) refl)
      ∙ ap (λ (l : List ℕ). received r (cut l (out.octets ++ rest))) (sym (append-nil out.streams))
      ∙ h.reads q r [] rest
      ∙ append-nil (outcomes s c.seq r xs)

  abbrev common_of : State → Common
  common_of st = st.session.common

  -- ---- a reply lists packets that are read back as xs, and this is what is common after it

  record Back (counts : List ℕ) (x : Reply) (c : Common) (xs : List Said) : Type 0 where
    pub ready : Ready s c
    pub counted : c.seq ≡ counts_after counts xs
    pub reads : (r : Radio) → received r (cut x.streams x.packets) ≡ outcomes s counts r xs

  -- nothing was listed, and nothing is to be said
  silent : (x : Reply) (c : Common) (xs : List Said) → Ready s c → x.streams ≡ [] → xs ≡ [] → Back c.seq x c xs
  unfolding cut received outcomes
  silent x c xs h n q =
      record {
        ready = h;
        counted = ap (counts_after c.seq) (sym q);
        reads = λ r. ap (λ (l : List ℕ). received r (cut l x.packets)) n ∙ ap (outcomes s c.seq r) (sym q);
      }

  -- packets were written to the front of d
  wrote-back : (x : Reply) (b : Common) (out : Sending) (xs : List Said) (d : List ℕ) → Ready s b → Says s b out xs → x.streams ≡ out.streams → x.packets ≡ written d 0 out.octets → Back b.seq x out.common xs
  wrote-back x b out xs d h y m n =
      record {
        ready = y.ready h;
        counted = y.counted;
        reads = λ r. ap (λ (l : List ℕ). received r (cut l x.packets)) m ∙ ap (λ (l : List ℕ). received r (cut out.streams l)) n ∙ wrote-reads b out xs d r y h;
      }

  -- what is said may be written otherwise, and no packet has the rest of what is common
  as-back : {counts : List ℕ} {x : Reply} {xs ys : List Said} (c d : Common) → Back counts x c xs → c.settings ≡ d.settings → c.tuning ≡ d.tuning → c.seq ≡ d.seq → xs ≡ ys → Back counts x d ys
  as-back {counts} {x} c d b e f g q =
      record {
        ready = record { settings = sym e ∙ b.ready.settings; tuning = sym f ∙ b.ready.tuning; counts = subst (λ (l : List ℕ). (k : ℕ) → get_or l k 0 < 2 ^ 32) g b.ready.counts };
        counted = sym g ∙ b.counted ∙ ap (counts_after counts) q;
        reads = λ r. b.reads r ∙ ap (outcomes s counts r) q;
      }

  module _ (st : State) (a : ℕ) (anchored : Anchored a st) (h : Ready s (common_of st)) where
    abbrev set : Settings
    set = (common_of st).settings

    abbrev w : Watch
    w = watch_of a st

    abbrev counts : List ℕ
    counts = (common_of st).seq

    -- what a call gave is read back as what it is to say
    abbrev Fits : Call → Step State → Type 0
    Fits c x = Back counts x.reply (common_of x.state) (said_by set w c x.reply)

    -- of a call that changes nothing which a packet has
    unsaid : (c : Call) (x : Reply) (b : Common) → Ready s b → b.seq ≡ counts → x.streams ≡ [] → said_by set w c x ≡ [] → Back counts x b (said_by set w c x)
    unsaid c x b q e n m = subst (λ (l : List ℕ). Back l x b (said_by set w c x)) e (silent x b (said_by set w c x) q n m)

    refused-back : (c : Call) (k : ℕ) → Fits c (refusal st c k)
    unfolding pick
    refused-back c k = unsaid c (refusal st c k).reply (common_of st) h refl refl refl

    -- the reading is in no packet
    ready_at : (now : ℕ) → Ready s (at_reading st.session now).common
    ready_at now = record { settings = h.settings; tuning = h.tuning; counts = h.counts }

    module _ (now : ℕ) (d : List ℕ) (reads : is_open st.session.receiver ≡ true) where
      abbrev at : Session
      at = at_reading st.session now

      abbrev Passes : Step Session → Type 0
      Passes x = Fits (Pass now d) (keeping st.samples x)

      abbrev due : List Said
      due = said_when_due w now

      pass-back : Passes (passed at now d)
      unfolding passed stall_soft stall_hard pick
      pass-back =
          pick-either (waits at.receiver) (replied (done ready) [] d [] at) _ Passes
          (λ e. unsaid (Pass now d) _ _ (ready_at now) refl refl (is-waits st a anchored now d reads [] [] [] due e)) λ e.
          pick-either (soft_test st a anchored now d reads) (stall_soft at d) _ Passes
          (λ f. unsaid (Pass now d) _ _ (ready_at now) refl refl (is-soft st a anchored now d reads [] [] [] due e f)) λ f.
          pick-either (hard_test st a anchored now d reads) (stall_hard at d) _ Passes
          (λ g. unsaid (Pass now d) _ _ (ready_at now) refl refl (is-hard st a anchored now d reads [] [] [] due e f g)) λ g.
          let out = due_packets now at.common in
          as-back out.common out.common (wrote-back (wrote (done sent) at d out).reply at.common out due d (ready_at now) (due-says s ok oct now at.common) refl refl) refl refl refl
          (sym (is-sent st a anchored now d reads [] [] [] due e f g))

    -- ---- Arrival, by what the datagram is

    module _ (i : Incoming) (d : List ℕ) where
      abbrev later : State
      later = at_later st i.later

      -- it is not refused, and is read back so
      abbrev BackAs : List Said → Reply → Common → Type 0
      BackAs xs x c = ((tells x.answer).refusal ≡ false) × Back counts x c xs

      abbrev BackAt : Routed → Step State → Type 0
      BackAt p x = BackAs (said_when_heard w i p) x.reply (common_of x.state)

      quiet : (x : Reply) (b : Common) → (tells x.answer).refusal ≡ false → Ready s b → b.seq ≡ counts → x.streams ≡ [] → BackAs [] x b
      quiet x b g q e n = (g, subst (λ (l : List ℕ). Back l x b []) e (silent x b [] q n refl))

      iq-back : (count : ℕ) → BackAt (iq count) (heard_iq later i d count)
      unfolding heard_iq heard_as hear
      iq-back count =
          pick-either _ _ _ (BackAt (iq count)) (λ _. quiet _ _ refl (record { settings = h.settings; tuning = h.tuning; counts = h.counts }) refl refl)
          (λ _. quiet _ _ refl (record { settings = h.settings; tuning = h.tuning; counts = h.counts }) refl refl)

      -- a status packet, the attenuator being this
      overload-back : (a : Option Controller) (bits : Told)
          → let x = overload later.session i d a bits in BackAs (said_by_step (hearing a bits i.now)) x.reply x.state.common
      unfolding overload pick
      overload-back None bits = quiet _ _ refl (ready_at i.later) refl refl
      overload-back (Some controller) (gives []) = quiet _ _ refl (ready_at i.later) refl refl
      overload-back (Some controller) (gives (bits ∷ vs)) =
          let made = Controller.observed controller (overloaded bits) i.now in
          let b = later.session.common in
          (refl, wrote-back _ b (stepped i.later made b) _ d (ready_at i.later) (stepped-says s ok oct i.later made b) refl refl)
      overload-back (Some controller) (refused k vs) = quiet _ _ refl (ready_at i.later) refl refl

      malformed-back : BackAt malformed (keeping st.samples (heard_malformed later.session d))
      unfolding heard_malformed with_one_more
      malformed-back =
          pick-either _ _ _ (λ (x : Step Session). BackAt malformed (keeping st.samples x)) (λ _. quiet _ _ refl (record { settings = h.settings; tuning = h.tuning; counts = h.counts }) refl refl)
          (λ _. quiet _ _ refl (record { settings = h.settings; tuning = h.tuning; counts = h.counts }) refl refl)

      arrived-back : (p : Routed) → BackAt p (arrived later i d p)
      unfolding arrived heard_status
      arrived-back (iq count) = iq-back count
      arrived-back status = overload-back w.attenuation (overload_told i.octets)
      arrived-back ignored = quiet _ _ refl (ready_at i.later) refl refl
      arrived-back malformed = malformed-back

      arrival-back : Fits (Arrival i d) (answered st (Arrival i d))
      arrival-back =
          let x = arrived-back (route st i) in
          let c = common_of (answered st (Arrival i d)).state in
          as-back c c x.1 refl refl refl (sym (pick-f _ _ _ x.0))

    -- ---- every call

    close-back : (d : List ℕ) → Fits (Close d) (answered st (Close d))
    unfolding stop pick
    close-back d =
        let out = stop_packets (common_of st) in
        as-back out.common (common_of (answered st (Close d)).state) (wrote-back (answered st (Close d)).reply (common_of st) out _ d h (stop-says s ok oct (common_of st)) refl refl) refl refl refl refl

    answered-back : (c : Call) → NoRow (rows_of st c) → Fits c (answered st c)
    unfolding begun_by hand_out handed take_missing take_discontinuity take_stalled pick
    answered-back (Begin now) n = unsaid (Begin now) _ _ (ready_at now) refl refl refl
    answered-back (Pass now d) n = pass-back now d (open-read st a anchored (common_of st).closed (is_open st.session.receiver) n.0)
    answered-back (Arrival i d) n = arrival-back i d
    answered-back (Take now buffer) n = unsaid (Take now buffer) _ _ (ready_at now) refl refl refl
    answered-back (Close d) n = close-back d
    answered-back TakeMissing n = unsaid TakeMissing _ _ h refl refl refl
    answered-back TakeDiscontinuity n = unsaid TakeDiscontinuity _ _ h refl refl refl
    answered-back TakeStalled n = unsaid TakeStalled _ _ h refl refl refl

    step_back : (c : Call) → Fits c (step st c)
    step_back c = step-either (Fits c) st c (refused-back c) (answered-back c)

  -- ---- over a list

  all_back : (samples : List Float) (st : State) (a : ℕ) → Anchored a st → Ready s (common_of st) → (calls : List Call) (r : Radio)
      → all_heard r (trace (session samples) st calls) ≡ all_said s (watch_of a st) (common_of st).seq r calls (trace (session samples) st calls)
  unfolding all_heard all_said
  all_back samples st a anchored h [] r = refl
  all_back samples st a anchored h (c ∷ cs) r =
      let x = step st c in
      let f = subst (λ (y : Settings). Fine y (watch_of a st) c x) h.settings (step-fine st a anchored c) in
      let b = subst (λ (y : Settings). Back (common_of st).seq x.reply (common_of x.state) (said_by y (watch_of a st) c x.reply)) h.settings (step_back st a anchored h c) in
      let xs = said_by s (watch_of a st) c x.reply in
      let now = outcomes s (common_of st).seq r xs in
      let rest = trace (session samples) x.state cs in
      ap (λ (l : List Outcome). l ++ all_heard (after r l) rest) (b.reads r)
      ∙ ap (λ (l : List Outcome). now ++ l) (all_back samples x.state f.anchor f.anchored b.ready cs (after r now))
      ∙ ap (λ (l : List ℕ). now ++ all_said s (watch_of f.anchor x.state) l (after r now) cs rest) b.counted
      ∙ ap (λ (v : Watch). now ++ all_said s v (counts_after (common_of st).seq xs) (after r now) cs rest) (sym f.next)

-- ---- of a session just opened, whatever is lent beside it

no-count : (k : ℕ) → get_or (0 ∷ 0 ∷ 0 ∷ 0 ∷ []) k 0 < 2 ^ 32
no-count zero = omega arith
no-count (suc zero) = omega arith
no-count (suc (suc zero)) = omega arith
no-count (suc (suc (suc zero))) = omega arith
no-count (suc (suc (suc (suc k)))) = omega arith

module _ (samples : List Float) (s : Settings) (now : ℕ) (calls : List Call) (ok : T (accepts s)) (oct : OfOctets s) where
  abbrev Reads : Session → Type 0
  Reads x =
      let replies = trace (session samples) (record { session = x; samples = samples }) calls in
      all_heard at_first replies ≡ all_said s (woken s now) (0 ∷ 0 ∷ 0 ∷ 0 ∷ []) at_first calls replies

  new-reads : Reads (new_session (khz_of s.sample_rate_hz) s now)
  unfolding new_session new_common new_receiver left
  new-reads =
      all_back s ok oct samples (record { session = new_session (khz_of s.sample_rate_hz) s now; samples = samples }) 0 (λ e. let z : ◌≡◌ {A = ℕ} 0 1 = cc in absurd (omega arith))
      (record { settings = refl; tuning = refl; counts = no-count }) calls at_first

pub read_back : (samples : List Float) → ReadBack (session samples)
read_back samples s now calls ok oct = subst (Reads samples s now calls ok oct) (sym (opened-new s now ok)) (new-reads samples s now calls ok oct)
