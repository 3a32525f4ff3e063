-- Demand 1 of the calls: whatever the state, a call is refused by the first row of 01's table that applies, which changes nothing, and is
-- answered where none applies. Assumes nothing.
use Rattle.std.specs.Prelude.{Option, Some, None}
use Rattle.attenuator.specs.declared.Controller.{Controller}
use Rattle.std.proofs.Common.{◌≡◌, ℕ, false, T, List, [], ◌∷◌, refl, arith}
use Rattle.base.proofs.Picks.{pick-either}
use Rattle.base.specs.Rows.{first_row, unless}
use Rattle.base.proofs.Rows.{NoRow, unless-either, unless-map, unless-refused}
use Rattle.base.specs.Told.{Told, gives, refused}
use Rattle.tuning.specs.Rate.{khz_of}
use Rattle.model.specs.Routing.{Routed, iq, status, ignored, malformed}
use Rattle.model.specs.Host.{Incoming, Call, Begin, Pass, Arrival, Take, Close, TakeMissing, TakeDiscontinuity, TakeStalled, Step}
use Rattle.model.specs.State.{State, refuse, keeping}
use Rattle.model.specs.Table.{begin_rows, pass_rows, close_rows, rows_of, refusal_of, refusal_in, settings_rows}
use Rattle.model.specs.Settings.{settings_told}
use Rattle.model.specs.Begin.{begin_accepted, begin}
use Rattle.model.specs.Pass.{stall_soft, stall_hard, passed, pass_accepted, pass}
use Rattle.model.specs.Arrival.{hear, heard_as, heard_iq, overload, heard_status, heard_malformed, arrived, arrival}
use Rattle.model.specs.Take.{hand_out, take_out}
use Rattle.model.specs.Close.{stop, close}
use Rattle.model.specs.Drain.{take_missing, take_discontinuity, take_stalled}
use Rattle.model.specs.Session.{step, answered}
use Rattle.model.specs.Refusals.{lent_packets, lent_buffer, Guarded}
use Rattle.model.specs.Answer.{Answer, tells}
use Rattle.model.specs.declared.session.Session.{Session}
use Rattle.model.specs.declared.settings.Settings.{Settings}

-- ---- each call is its rows, and what it answers where none applies

-- a refusal: all that was lent is as it was
abbrev pub refusal : State → Call → ℕ → Step State
refusal st c k = refuse k (lent_packets c) (lent_buffer c) st

pub step_is : (st : State) (c : Call) → step st c ≡ unless (rows_of st c) (refusal st c) (answered st c)
unfolding step begin pass arrival take_out close
step_is st (Begin now) = unless-map (keeping st.samples) (begin_rows st.session now) (λ k. refuse k [] [] st.session) (begin_accepted st.session now)
step_is st (Pass now d) = unless-map (keeping st.samples) (pass_rows st.session now d) (λ k. refuse k d [] st.session) (pass_accepted st.session now d)
step_is st (Arrival i d) = refl
step_is st (Take now buffer) = refl
step_is st (Close d) = unless-map (keeping st.samples) (close_rows st.session d) (λ k. refuse k d [] st.session) (stop st.session d)
step_is st TakeMissing = refl
step_is st TakeDiscontinuity = refl
step_is st TakeStalled = refl

-- what holds of each refusal, and of what is answered where no row applies, holds of a call
pub step-either : (P : Step State → Type 0) (st : State) (c : Call) → ((k : ℕ) → P (refusal st c k)) → (NoRow (rows_of st c) → P (answered st c)) → P (step st c)
step-either P st c r a = rw (step_is st c) (unless-either P (rows_of st c) (refusal st c) (answered st c) r a)

-- ---- what is answered is no refusal

abbrev Answers : {S : Type 0} → Step S → Type 0
Answers x = refusal_of x.reply.answer ≡ None

passed-answers : (s : Session) (now : ℕ) (d : List ℕ) → Answers (passed s now d)
unfolding passed stall_soft stall_hard
passed-answers s now d =
    pick-either _ _ _ Answers (λ _. refl) λ _. pick-either _ _ _ Answers (λ _. refl) λ _. pick-either _ _ _ Answers (λ _. refl) λ _. refl

module _ (st : State) (i : Incoming) (d : List ℕ) where
  iq-answers : (count : ℕ) → Answers (heard_iq st i d count)
  unfolding heard_iq heard_as hear
  iq-answers count = pick-either _ _ _ Answers (λ _. refl) (λ _. refl)

  overload-answers : (a : Option Controller) (bits : Told) → Answers (overload st.session i d a bits)
  unfolding overload
  overload-answers None bits = refl
  overload-answers (Some controller) (gives []) = refl
  overload-answers (Some controller) (gives (bits ∷ vs)) = refl
  overload-answers (Some controller) (refused k vs) = refl

  malformed-answers : Answers (heard_malformed st.session d)
  unfolding heard_malformed
  malformed-answers = pick-either _ _ _ Answers (λ _. refl) (λ _. refl)

  arrived-answers : (p : Routed) → Answers (arrived st i d p)
  unfolding arrived heard_status
  arrived-answers (iq count) = iq-answers count
  arrived-answers status = overload-answers _ _
  arrived-answers ignored = refl
  arrived-answers malformed = malformed-answers

pub answered-not-refused : (st : State) (c : Call) → refusal_of (answered st c).reply.answer ≡ None
unfolding hand_out stop take_missing take_discontinuity take_stalled
answered-not-refused st (Begin now) = refl
answered-not-refused st (Pass now d) = passed-answers _ now d
answered-not-refused st (Arrival i d) = arrived-answers _ i d _
answered-not-refused st (Take now buffer) = refl
answered-not-refused st (Close d) = refl
answered-not-refused st TakeMissing = refl
answered-not-refused st TakeDiscontinuity = refl
answered-not-refused st TakeStalled = refl

-- ---- demand 1, of every state, those that no list reaches among them

-- the first row that applies
pub refused-by : (st : State) (c : Call) → refusal_of (step st c).reply.answer ≡ first_row (rows_of st c)
refused-by st c =
    rw (step_is st c)
    (unless-refused (λ (x : Step State). refusal_of x.reply.answer) (rows_of st c) (refusal st c) (answered st c) (λ k. refl) (answered-not-refused st c))

told-no-refusal : (a : Answer) → refusal_of a ≡ None → (tells a).refusal ≡ false
told-no-refusal (Answer.refused k) e = let z : ◌≡◌ {A = ℕ} 0 1 = cc in absurd (omega arith)
told-no-refusal (Answer.done w) e = refl
told-no-refusal (Answer.heard event missing) e = refl
told-no-refusal (Answer.took n) e = refl
told-no-refusal (Answer.slot held) e = refl
told-no-refusal (Answer.flag stalled) e = refl

pub told-refusal : (a : Answer) (k : ℕ) → refusal_of a ≡ Some k → T (tells a).refusal
told-refusal (Answer.refused n) k e = tt
told-refusal (Answer.done w) k e = let z : ◌≡◌ {A = ℕ} 0 1 = cc in absurd (omega arith)
told-refusal (Answer.heard event missing) k e = let z : ◌≡◌ {A = ℕ} 0 1 = cc in absurd (omega arith)
told-refusal (Answer.took n) k e = let z : ◌≡◌ {A = ℕ} 0 1 = cc in absurd (omega arith)
told-refusal (Answer.slot held) k e = let z : ◌≡◌ {A = ℕ} 0 1 = cc in absurd (omega arith)
told-refusal (Answer.flag stalled) k e = let z : ◌≡◌ {A = ℕ} 0 1 = cc in absurd (omega arith)

-- nothing changes
pub refused-unchanged : (st : State) (c : Call) → Guarded st c (step st c)
refused-unchanged st c =
    step-either (Guarded st c) st c
    (λ k. record { guard = λ t. record { state = refl; streams = refl; packets = refl; buffer = refl } })
    (λ _. record { guard = λ t. absurd (rw (told-no-refusal (answered st c).reply.answer (answered-not-refused st c)) at t) })

-- and of the settings
pub settings-refused-by : (s : Settings) → refusal_in (settings_told s) ≡ first_row (settings_rows s)
unfolding settings_told
settings-refused-by s = unless-refused refusal_in (settings_rows s) (λ k. refused k []) (gives (khz_of s.sample_rate_hz ∷ [])) (λ k. refl) refl
