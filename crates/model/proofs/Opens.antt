-- What Open gives, and what of it stays over every list of calls: the settings and what the packets carry of them, the phase word
-- among these; and the session beside a refusal, which refuses every call. Assumes nothing.
use Rattle.std.specs.Prelude.{Some}
use Rattle.std.proofs.Common.{◌≡◌, ℕ, ◌*◌, ◌/◌, Bool, true, false, ◌&&◌, T, List, [], ◌∷◌, sym, refl, ap, ◌∙◌, subst, arith}
use lib.Ieee.{Float}
use lib.Ieee.Bits.{is_true}
use Rattle.base.proofs.Picks.{pick-t, pick-f}
use Rattle.base.specs.Pick.{pick}
use Rattle.double.specs.Whole.{floor_of}
use Rattle.tuning.specs.Centre.{accepted_centre}
use Rattle.tuning.specs.Phase.{phase_word_of}
use Rattle.tuning.specs.Rate.{khz_of}
use Rattle.tuning.proofs.Centres.{phase-of-accepted}
use Rattle.model.specs.Settings.{accepts}
use Rattle.model.specs.Routing.{Routed, iq, status, ignored, malformed}
use Rattle.model.specs.Host.{Call, Begin, Pass, Arrival, Take, Close, TakeMissing, TakeDiscontinuity, TakeStalled, Step, final}
use Rattle.model.specs.State.{State}
use Rattle.model.specs.Table.{refusal_of}
use Rattle.model.specs.Arrival.{route}
use Rattle.model.specs.Open.{tuned, new_common, new_receiver, new_session, unopened, opened}
use Rattle.model.specs.Drain.{take_missing, take_discontinuity, take_stalled}
use Rattle.model.specs.Session.{step, opened_with, session}
use Rattle.model.specs.Refusals.{is_drain}
use Rattle.model.specs.Leaves.{stored, by_arrival, changed, Fixed}
use Rattle.model.specs.Answer.{tells}
use Rattle.model.specs.declared.session.Session.{Session}
use Rattle.model.specs.declared.session.Tuning.{Tuning}
use Rattle.model.specs.declared.settings.Settings.{Settings}
use Rattle.model.proofs.Rows.{accepted-plain}
use Rattle.model.proofs.Refusals.{refused-by, told-refusal, step-either, refused-unchanged}
use Rattle.model.proofs.Leaves.{answered-leaves}

-- ---- what Open gives

pub opened-new : (s : Settings) (now : ℕ) → T (accepts s) → opened s now ≡ new_session (khz_of s.sample_rate_hz) s now
unfolding opened
opened-new s now ok = pick-t (accepts s) (new_session (khz_of s.sample_rate_hz) s now) unopened (is_true (accepts s) ok)

pub opened-not : (s : Settings) (now : ℕ) → accepts s ≡ false → opened s now ≡ unopened
unfolding opened
opened-not s now refused = pick-f (accepts s) (new_session (khz_of s.sample_rate_hz) s now) unopened refused

-- the last accepted reading is the opening one
pub opened-at : (s : Settings) (now : ℕ) → T (accepts s) → (opened s now).common.last_reading ≡ now
unfolding new_session new_common
opened-at s now ok = ap (λ (x : Session). x.common.last_reading) (opened-new s now ok)

-- ---- the session beside a refusal: every call but a drain is refused by 10, and none changes it

module _ (samples : List Float) where
  abbrev beside : State
  beside = record { session = unopened; samples = samples }

  unopened-refuses : (c : Call) → is_drain c ≡ false → refusal_of (step beside c).reply.answer ≡ Some 10
  unfolding unopened pick
  unopened-refuses (Begin now) e = refused-by beside (Begin now)
  unopened-refuses (Pass now d) e = refused-by beside (Pass now d)
  unopened-refuses (Arrival i d) e = refused-by beside (Arrival i d)
  unopened-refuses (Take now buffer) e = refused-by beside (Take now buffer)
  unopened-refuses (Close d) e = refused-by beside (Close d)
  unopened-refuses TakeMissing e = let z : ◌≡◌ {A = ℕ} 0 1 = cc in absurd (omega arith)
  unopened-refuses TakeDiscontinuity e = let z : ◌≡◌ {A = ℕ} 0 1 = cc in absurd (omega arith)
  unopened-refuses TakeStalled e = let z : ◌≡◌ {A = ℕ} 0 1 = cc in absurd (omega arith)

  refused-stays : (c : Call) → is_drain c ≡ false → (step beside c).state ≡ beside
  refused-stays c e = ((refused-unchanged beside c).guard (by_number (unopened-refuses c e))).state
    where
      by_number : refusal_of (step beside c).reply.answer ≡ Some 10 → T (tells (step beside c).reply.answer).refusal
      by_number h = told-refusal (step beside c).reply.answer 10 h

  unopened-stays : (c : Call) → (step beside c).state ≡ beside
  unfolding unopened new_session new_receiver step take_missing take_discontinuity take_stalled
  unopened-stays (Begin now) = refused-stays (Begin now) refl
  unopened-stays (Pass now d) = refused-stays (Pass now d) refl
  unopened-stays (Arrival i d) = refused-stays (Arrival i d) refl
  unopened-stays (Take now buffer) = refused-stays (Take now buffer) refl
  unopened-stays (Close d) = refused-stays (Close d) refl
  unopened-stays TakeMissing = refl
  unopened-stays TakeDiscontinuity = refl
  unopened-stays TakeStalled = refl

-- of Open itself, whatever the settings that it refused
module _ (samples : List Float) (s : Settings) (now : ℕ) (refused : accepts s ≡ false) where
  abbrev there : State
  there = opened_with samples s now

  is-beside : there ≡ beside samples
  is-beside = ap (λ (x : Session). record { session = x; samples = samples }) (opened-not s now refused)

  pub beside-refuses : (c : Call) → is_drain c ≡ false → refusal_of (step there c).reply.answer ≡ Some 10
  beside-refuses c e = ap (λ (x : State). refusal_of (step x c).reply.answer) is-beside ∙ unopened-refuses samples c e

  pub beside-stays : (c : Call) → (step there c).state ≡ there
  beside-stays c = ap (λ (x : State). (step x c).state) is-beside ∙ unopened-stays samples c ∙ sym is-beside

-- ---- what stays

fixed-route : (st at t : State) (p : Routed) → Fixed st at → Fixed st (by_arrival at p t)
fixed-route st at t (iq count) h = record { settings = h.settings; tuning = h.tuning }
fixed-route st at t status h = record { settings = h.settings; tuning = h.tuning }
fixed-route st at t ignored h = record { settings = h.settings; tuning = h.tuning }
fixed-route st at t malformed h = record { settings = h.settings; tuning = h.tuning }

fixed-changed : (st : State) (c : Call) (t : State) → Fixed st (changed st c t)
fixed-changed st (Begin now) t = record { settings = refl; tuning = refl }
fixed-changed st (Pass now d) t = record { settings = refl; tuning = refl }
fixed-changed st (Arrival i d) t = fixed-route st (stored st (Arrival i d)) t (route st i) (record { settings = refl; tuning = refl })
fixed-changed st (Take now buffer) t = record { settings = refl; tuning = refl }
fixed-changed st (Close d) t = record { settings = refl; tuning = refl }
fixed-changed st TakeMissing t = record { settings = refl; tuning = refl }
fixed-changed st TakeDiscontinuity t = record { settings = refl; tuning = refl }
fixed-changed st TakeStalled t = record { settings = refl; tuning = refl }

pub fixed-step : (st : State) (c : Call) → Fixed st (step st c).state
fixed-step st c =
    step-either (λ (x : Step State). Fixed st x.state) st c (λ k. record { settings = refl; tuning = refl })
    (λ _. subst (Fixed st) (sym (answered-leaves st c)) (fixed-changed st c _))

pub fixed : (samples : List Float) (st : State) (calls : List Call) → Fixed st (final (session samples) st calls)
fixed samples st [] = record { settings = refl; tuning = refl }
fixed samples st (c ∷ cs) =
    let one = fixed-step st c in
    let rest = fixed samples (step st c).state cs in
    record { settings = rest.settings ∙ one.settings; tuning = rest.tuning ∙ one.tuning }

-- ---- the phase word of a session: floor(centre × 65536 / 1875), for all accepted settings and every list of calls

centre-accepted : (s : Settings) → T (accepts s) → T (accepted_centre s.center_freq_hz)
centre-accepted s ok = let p = (accepted-plain s ok).tunable in both _ _ p.whole p.below
  where
    both : (a b : Bool) → a ≡ true → b ≡ true → T (a && b)
    both true true h k = tt
    both true false h k = let z : ◌≡◌ {A = ℕ} 0 1 = cc in absurd (omega arith)
    both false b h k = let z : ◌≡◌ {A = ℕ} 0 1 = cc in absurd (omega arith)

word-opened : (s : Settings) (now : ℕ) → T (accepts s) → (opened s now).common.tuning.phase_word ≡ phase_word_of s.center_freq_hz
unfolding new_session new_common tuned
word-opened s now ok = ap (λ (x : Session). x.common.tuning.phase_word) (opened-new s now ok)

pub phase-of-session : (samples : List Float) (s : Settings) (now : ℕ) (calls : List Call) → T (accepts s)
    → (final (session samples) (opened_with samples s now) calls).session.common.tuning.phase_word ≡ floor_of s.center_freq_hz * 65536 / 1875
phase-of-session samples s now calls ok =
    ap (λ (x : Tuning). x.phase_word) (fixed samples (opened_with samples s now) calls).tuning
    ∙ word-opened s now ok
    ∙ phase-of-accepted s.center_freq_hz (centre-accepted s ok)
