-- The session and the book say the same of the stream, and every call but an arrival keeps that. Assumes nothing.
use Rattle.std.specs.Prelude.{Option, Some, None}
use Prim.Native.Nat.{ℕ, ◌-◌, ◌/◌, min}
use mathlib.Core.Path.{◌≡◌, refl, sym, ap, ◌∙◌}
use mathlib.Core.List.{List, [], append-nil}
use native.Mathlib.Omega.{arith}
use lib.ListN.{length}
use lib.Ieee.{Float}
use lib.IntN.{ℤ}
use Rattle.base.proofs.Picks.{pick-either}
use Rattle.sequence.specs.declared.SeqTracker.{SeqTracker}
use Rattle.model.specs.Sample.{Sample, pairs}
use Rattle.model.specs.Host.{Call, Begin, Pass, Arrival, Take, Close, TakeMissing, TakeDiscontinuity, TakeStalled, Step}
use Rattle.model.specs.State.{State, left, waiting_in, at_reading, keeping}
use Rattle.model.specs.Begin.{begun_by, begin_accepted}
use Rattle.model.specs.Pass.{stall_soft, stall_hard, passed, pass_accepted}
use Rattle.model.specs.Take.{handed, hand_out, take_accepted}
use Rattle.model.specs.Close.{stop}
use Rattle.model.specs.Drain.{take_missing, take_discontinuity, take_stalled}
use Rattle.account.specs.Whole.{count_of}
use Rattle.account.specs.Book.{Quiet, news, Book}
use Rattle.model.specs.Answer.{tells}
use Rattle.account.specs.Ledger.{gave}
use Rattle.account.specs.Exact.{Exact}
use Rattle.model.specs.declared.session.Common.{Common}
use Rattle.model.specs.declared.session.Session.{Session}
use Rattle.model.specs.declared.settings.Settings.{Settings}
use Rattle.model.proofs.Pairs.{handed_out}
use Rattle.model.proofs.Refusals.{refusal}
use Rattle.model.proofs.Sends.{due-steady, stop-steady}
use Rattle.account.proofs.Simulate

-- the tracker that expects the book's number
abbrev pub sent_as : Option ℤ → ℕ → SeqTracker
sent_as None run = record { expected = None; stale_run = run }
sent_as (Some e) run = record { expected = Some (count_of e); stale_run = run }

abbrev pub waiting_of : State → List Sample
waiting_of st = waiting_in st.session.receiver st.samples

module _ (s : Settings) where
  pub record Same (b : Book) (st : State) : Type 0 where
    pub settings : st.session.common.settings ≡ s
    pub tracker : st.session.receiver.tracker ≡ sent_as b.expected b.run
    pub accepted_at : st.session.receiver.last_accepted_iq ≡ b.accepted_at
    pub taken : st.session.receiver.read_returned ≡ b.taken
    pub window : st.session.receiver.parked ≡ b.window
    pub size : length st.samples ≡ 476

  abbrev pub Kept : Book → State → Call → ℤ → Step State → Type 0
  Kept = Simulate.Kept s State waiting_of Same (Exact s)

  module _ (b : Book) (st : State) (n : ℤ) (h : Same b st) where
    -- a call that the book does not see: it tells nothing and hands nothing out, and what it leaves expects, holds and waits for the same
    pub still : (c : Call) (x : Step State) →
        news s c (tells x.reply.answer).refusal ≡ Quiet →
        (tells x.reply.answer).event ≡ None →
        (tells x.reply.answer).missing ≡ 0 →
        gave c x.reply ≡ [] →
        x.state.session.common.settings ≡ s →
        x.state.session.receiver.tracker ≡ st.session.receiver.tracker →
        x.state.session.receiver.last_accepted_iq ≡ st.session.receiver.last_accepted_iq →
        x.state.session.receiver.read_returned ≡ st.session.receiver.read_returned →
        x.state.session.receiver.parked ≡ st.session.receiver.parked →
        x.state.session.receiver.queue_pos ≡ st.session.receiver.queue_pos →
        x.state.samples ≡ st.samples →
        Kept b st c n x
    unfolding waiting_in
    still c x w e m g settings tracker accepted_at taken window queue samples =
        record {
          keep = λ l.
              record {
                same =
                    rw w
                    (record {
                      settings = settings;
                      tracker = tracker ∙ h.tracker;
                      accepted_at = accepted_at ∙ h.accepted_at;
                      taken = taken ∙ h.taken;
                      window = window ∙ h.window;
                      size = ap length samples ∙ h.size;
                    });
                right = rw w tt;
                also = rw w (e, m);
                flow = rw (w, g, queue, samples) (sym (append-nil (waiting_of st)));
              };
        }

    module _ (c : Call) where
      abbrev Held : Step State → Type 0
      Held = Kept b st c n

      abbrev HeldBy : Step Session → Type 0
      HeldBy x = Kept b st c n (keeping st.samples x)

    -- a refused call is none
    gave-nothing : (c : Call) (k : ℕ) → gave c (refusal st c k).reply ≡ []
    unfolding pairs
    gave-nothing (Begin now) k = refl
    gave-nothing (Pass now d) k = refl
    gave-nothing (Arrival i d) k = refl
    gave-nothing (Take now buffer) k = refl
    gave-nothing (Close d) k = refl
    gave-nothing TakeMissing k = refl
    gave-nothing TakeDiscontinuity k = refl
    gave-nothing TakeStalled k = refl

    pub refused-keeps : (c : Call) (k : ℕ) → Held c (refusal st c k)
    refused-keeps c k = still c (refusal st c k) refl refl refl (gave-nothing c k) h.settings refl refl refl refl refl refl

    pub begin-keeps : (now : ℕ) → HeldBy (Begin now) (begin_accepted st.session now)
    unfolding begun_by waiting_in
    begin-keeps now =
        record {
          keep = λ l.
              record {
                same = record { settings = h.settings; tracker = h.tracker; accepted_at = h.accepted_at; taken = h.taken; window = cc (h.settings, h.taken, h.window); size = h.size };
                right = tt;
                also = (refl, refl);
                flow = sym (append-nil (waiting_of st));
              };
        }

    module _ (now : ℕ) (d : List ℕ) where
      abbrev stepped : Session
      stepped = at_reading st.session now

      soft-keeps : HeldBy (Pass now d) (stall_soft stepped d)
      unfolding stall_soft
      soft-keeps = still (Pass now d) (keeping st.samples (stall_soft stepped d)) refl refl refl refl h.settings refl refl refl refl refl refl

      hard-keeps : HeldBy (Pass now d) (stall_hard stepped d)
      unfolding stall_hard
      hard-keeps = still (Pass now d) (keeping st.samples (stall_hard stepped d)) refl refl refl refl h.settings refl refl refl refl refl refl

      pub pass-keeps : HeldBy (Pass now d) (pass_accepted st.session now d)
      unfolding passed
      pass-keeps =
          pick-either _ _ _ (HeldBy (Pass now d)) (λ _. still (Pass now d) _ refl refl refl refl h.settings refl refl refl refl refl refl) λ _.
          pick-either _ _ _ (HeldBy (Pass now d)) (λ _. soft-keeps) λ _.
          pick-either _ _ _ (HeldBy (Pass now d)) (λ _. hard-keeps) λ _.
          still (Pass now d) _ refl refl refl refl (ap (λ (c : Common). c.settings) (due-steady now _).kept ∙ h.settings) refl refl refl refl refl refl

    pub close-keeps : (d : List ℕ) → HeldBy (Close d) (stop st.session d)
    unfolding stop
    close-keeps d = still (Close d) (keeping st.samples (stop st.session d)) refl refl refl refl (ap (λ (c : Common). c.settings) (stop-steady st.session.common).kept ∙ h.settings) refl refl refl refl refl refl

    pub missing-keeps : HeldBy TakeMissing (take_missing st.session)
    unfolding take_missing
    missing-keeps = still TakeMissing (keeping st.samples (take_missing st.session)) refl refl refl refl h.settings refl refl refl refl refl refl

    pub discontinuity-keeps : HeldBy TakeDiscontinuity (take_discontinuity st.session)
    unfolding take_discontinuity
    discontinuity-keeps = still TakeDiscontinuity (keeping st.samples (take_discontinuity st.session)) refl refl refl refl h.settings refl refl refl refl refl refl

    pub stalled-keeps : HeldBy TakeStalled (take_stalled st.session)
    unfolding take_stalled
    stalled-keeps = still TakeStalled (keeping st.samples (take_stalled st.session)) refl refl refl refl h.settings refl refl refl refl refl refl

    pub take-keeps : (now : ℕ) (buffer : List Float) → Held (Take now buffer) (take_accepted st now buffer)
    unfolding hand_out handed left waiting_in pairs
    take-keeps now buffer =
        record {
          keep = λ l.
              record {
                same = record { settings = h.settings; tracker = h.tracker; accepted_at = h.accepted_at; taken = refl; window = h.window; size = h.size };
                right = tt;
                also = (refl, refl);
                flow = handed_out (min (length buffer / 2) (238 - st.session.receiver.queue_pos)) st.session.receiver.queue_pos st.samples buffer h.size (omega arith);
              };
        }
