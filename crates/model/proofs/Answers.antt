-- An answer in 01's words and numbers leaves no doubt which answer of the code it was, but for the streams that it lists; and with them,
-- none at all. Assumes nothing.
use Rattle.std.specs.Prelude.{⊤, Result, Ok, Err}
use Rattle.model.specs.declared.settings.SettingsError.{SettingsError}
use Rattle.model.specs.declared.settings.SettingsError.TheVariants as settings
use Rattle.model.specs.declared.answer.Refusal.{Refusal}
use Rattle.model.specs.declared.answer.Refusal.TheVariants as refusal
use Rattle.model.specs.declared.answer.PassAnswer.TheVariants as pass
use Rattle.model.specs.declared.answer.ArrivalAnswer.TheVariants as arrival
use Rattle.std.proofs.Common.{◌≡◌, ◌∙◌, ℕ, ap, eqb, get_or, refl, sym, ltb}
use Rattle.base.specs.Pick.{pick}
use Rattle.base.specs.Told.{Told, gives}
use Rattle.base.proofs.Told.{apart}
use Rattle.sequence.specs.declared.SeqEvent.{SeqEvent}
use Rattle.sequence.specs.declared.SeqEvent.TheVariants.{InOrder}
use Rattle.model.specs.Settings.{settings_answer}
use Rattle.model.specs.Answer.{refused_by, Word, begun, ready, soft_stall, hard_stall, sent, ignored, status, malformed, malformed_limit, closed, Answer, refused, done, heard, took, slot, flag, begin_answer, pass_answer, arrival_answer, take_answer, close_answer}
use Rattle.model.specs.Gives.{pass_streams, arrival_streams, close_streams}
use Rattle.model.specs.Listed.{pass_listing, arrival_listing, close_listing}
use Rattle.model.specs.declared.command.Streams.{Streams}
use Rattle.model.specs.declared.answer.PassAnswer.{PassAnswer}
use Rattle.model.specs.declared.answer.ArrivalAnswer.{ArrivalAnswer}

settings-by : ℕ → Result ℕ SettingsError
settings-by k =
    pick (eqb k 1) (Err settings.DdcCount)
    (pick (eqb k 2) (Err settings.CenterCount)
    (pick (eqb k 3) (Err settings.Rate)
    (pick (eqb k 4) (Err settings.Center)
    (pick (eqb k 5) (Err settings.CenterTooHigh)
    (pick (eqb k 19) (Err settings.PortZero) (Err settings.Port))))))

settings-back : Told → Result ℕ SettingsError
settings-back (gives vs) = Ok (get_or vs 0 0)
settings-back (Told.refused k vs) = settings-by k

settings-same : (r : Result ℕ SettingsError) → settings-back (settings_answer r) ≡ r
unfolding settings-back settings-by pick
settings-same (Ok khz) = refl
settings-same (Err settings.DdcCount) = refl
settings-same (Err settings.CenterCount) = refl
settings-same (Err settings.Rate) = refl
settings-same (Err settings.Center) = refl
settings-same (Err settings.CenterTooHigh) = refl
settings-same (Err settings.PortZero) = refl
settings-same (Err settings.Port) = refl

-- ---- an answer's number: 01's where it is refused

word : Word → ℕ
word begun = 20
word ready = 21
word soft_stall = 22
word hard_stall = 23
word sent = 24
word ignored = 25
word status = 26
word malformed = 27
word malformed_limit = 28
word closed = 29

number : Answer → ℕ
number (refused k) = k
number (done w) = word w
number (heard e m) = 30
number (took n) = 31
number (slot held) = 32
number (flag stalled) = 33

event : Answer → SeqEvent
event (heard e m) = e
event (refused k) = InOrder
event (done w) = InOrder
event (took n) = InOrder
event (slot held) = InOrder
event (flag stalled) = InOrder

value : Answer → ℕ
value (heard e m) = m
value (took n) = n
value (refused k) = 0
value (done w) = 0
value (slot held) = 0
value (flag stalled) = 0

-- by 01's number; what is no refusal's is the last one's
refusal-by : ℕ → Refusal
refusal-by k =
    pick (eqb k 10) refusal.NotNow
    (pick (eqb k 11) refusal.ReadingFell
    (pick (eqb k 12) refusal.SamplesWait
    (pick (eqb k 13) refusal.LaterFell
    (pick (eqb k 14) refusal.TooManyWaiting
    (pick (eqb k 15) refusal.NoPacketRoom
    (pick (eqb k 16) refusal.NoSampleRoom refusal.NothingWaits))))))

-- the refusal of a number from 10 to 17, else what the call gave
or_refusal : {A : Type 0} → Answer → A → Result A Refusal
or_refusal a x = pick (ltb (number a) 18) (Err (refusal-by (number a))) (Ok x)

refusal_same : {A : Type 0} (r : Refusal) (x : A) → or_refusal (refused_by r) x ≡ Err r
unfolding or_refusal refusal-by pick number
refusal_same refusal.NotNow x = refl
refusal_same refusal.ReadingFell x = refl
refusal_same refusal.SamplesWait x = refl
refusal_same refusal.LaterFell x = refl
refusal_same refusal.TooManyWaiting x = refl
refusal_same refusal.NoPacketRoom x = refl
refusal_same refusal.NoSampleRoom x = refl
refusal_same refusal.NothingWaits x = refl

begin-back : Answer → Result ⊤ Refusal
begin-back a = or_refusal a tt

begin-same : (r : Result ⊤ Refusal) → begin-back (begin_answer r) ≡ r
unfolding begin-back or_refusal pick number word
begin-same (Ok u) = refl
begin-same (Err r) = refusal_same r tt

pass-by : Answer → Streams → PassAnswer
pass-by a l = pick (eqb (number a) 21) pass.Ready (pick (eqb (number a) 22) pass.SoftStall (pick (eqb (number a) 23) pass.HardStall (pass.Sent l)))

pass-back : Answer → Streams → Result PassAnswer Refusal
pass-back a l = or_refusal a (pass-by a l)

arrival-by : Answer → Streams → ArrivalAnswer
arrival-by a l =
    pick (eqb (number a) 25) arrival.Ignored
    (pick (eqb (number a) 26) (arrival.Status l)
    (pick (eqb (number a) 27) arrival.Malformed
    (pick (eqb (number a) 28) arrival.MalformedLimit (arrival.Iq (event a) (value a)))))

arrival-back : Answer → Streams → Result ArrivalAnswer Refusal
arrival-back a l = or_refusal a (arrival-by a l)

take_back : Answer → Result ℕ Refusal
take_back a = or_refusal a (value a)

take_same : (r : Result ℕ Refusal) → take_back (take_answer r) ≡ r
unfolding take_back or_refusal pick number value
take_same (Ok n) = refl
take_same (Err r) = refusal_same r _

close-back : Answer → Streams → Result Streams Refusal
close-back a l = or_refusal a l

-- what an answer gives back, with any streams, is its case with these
pass-case : (l : Streams) (r : Result PassAnswer Refusal) → pass-back (pass_answer r) l ≡ pass_listing l r
unfolding pass-back or_refusal pass-by pick number word
pass-case l (Ok pass.Ready) = refl
pass-case l (Ok pass.SoftStall) = refl
pass-case l (Ok pass.HardStall) = refl
pass-case l (Ok (pass.Sent streams)) = refl
pass-case l (Err r) = refusal_same r _

arrival-case : (l : Streams) (r : Result ArrivalAnswer Refusal) → arrival-back (arrival_answer r) l ≡ arrival_listing l r
unfolding arrival-back or_refusal arrival-by pick number word event value
arrival-case l (Ok arrival.Ignored) = refl
arrival-case l (Ok (arrival.Status streams)) = refl
arrival-case l (Ok arrival.Malformed) = refl
arrival-case l (Ok arrival.MalformedLimit) = refl
arrival-case l (Ok (arrival.Iq e m)) = refl
arrival-case l (Err r) = refusal_same r _

close-case : (l : Streams) (r : Result Streams Refusal) → close-back (close_answer r) l ≡ close_listing l r
unfolding close-back or_refusal pick number word
close-case l (Ok streams) = refl
close-case l (Err r) = refusal_same r _

-- ---- of two answers that are told alike

-- they differ at most in the streams that they list
told-apart : {A : Type 0} (answer : A → Answer) (back : Answer → Streams → A) (listing : Streams → A → A)
    → ((l : Streams) (r : A) → back (answer r) l ≡ listing l r)
    → (r s : A) → answer r ≡ answer s → (l : Streams) → listing l r ≡ listing l s
told-apart answer back listing case r s h l = sym (case l r) ∙ ap (λ (a : Answer). back a l) h ∙ case l s

pub pass-told : (r s : Result PassAnswer Refusal) → pass_answer r ≡ pass_answer s → (l : Streams) → pass_listing l r ≡ pass_listing l s
pass-told = told-apart pass_answer pass-back pass_listing pass-case

pub arrival-told : (r s : Result ArrivalAnswer Refusal) → arrival_answer r ≡ arrival_answer s → (l : Streams) → arrival_listing l r ≡ arrival_listing l s
arrival-told = told-apart arrival_answer arrival-back arrival_listing arrival-case

pub close-told : (r s : Result Streams Refusal) → close_answer r ≡ close_answer s → (l : Streams) → close_listing l r ≡ close_listing l s
close-told = told-apart close_answer close-back close_listing close-case

-- an answer with its own streams is that answer
pass-own : (r : Result PassAnswer Refusal) → pass_listing (pass_streams r) r ≡ r
pass-own (Ok pass.Ready) = refl
pass-own (Ok pass.SoftStall) = refl
pass-own (Ok pass.HardStall) = refl
pass-own (Ok (pass.Sent streams)) = refl
pass-own (Err r) = refl

arrival-own : (r : Result ArrivalAnswer Refusal) → arrival_listing (arrival_streams r) r ≡ r
arrival-own (Ok arrival.Ignored) = refl
arrival-own (Ok (arrival.Status streams)) = refl
arrival-own (Ok arrival.Malformed) = refl
arrival-own (Ok arrival.MalformedLimit) = refl
arrival-own (Ok (arrival.Iq e m)) = refl
arrival-own (Err r) = refl

close-own : (r : Result Streams Refusal) → close_listing (close_streams r) r ≡ r
close-own (Ok streams) = refl
close-own (Err r) = refl

-- so that where they list the same streams they are one answer
listed-apart : {A : Type 0} (answer : A → Answer) (streams : A → Streams) (listing : Streams → A → A)
    → ((r s : A) → answer r ≡ answer s → (l : Streams) → listing l r ≡ listing l s)
    → ((r : A) → listing (streams r) r ≡ r)
    → (r s : A) → answer r ≡ answer s → streams r ≡ streams s → r ≡ s
listed-apart answer streams listing told own r s h k =
    sym (own r) ∙ told r s h (streams r) ∙ ap (λ (l : Streams). listing l s) k ∙ own s

pub settings-apart : (r s : Result ℕ SettingsError) → settings_answer r ≡ settings_answer s → r ≡ s
settings-apart = apart settings_answer settings-back settings-same

pub begin-apart : (r s : Result ⊤ Refusal) → begin_answer r ≡ begin_answer s → r ≡ s
begin-apart = apart begin_answer begin-back begin-same

pub pass-apart : (r s : Result PassAnswer Refusal) → pass_answer r ≡ pass_answer s → pass_streams r ≡ pass_streams s → r ≡ s
pass-apart = listed-apart pass_answer pass_streams pass_listing pass-told pass-own

pub arrival-apart : (r s : Result ArrivalAnswer Refusal) → arrival_answer r ≡ arrival_answer s → arrival_streams r ≡ arrival_streams s → r ≡ s
arrival-apart = listed-apart arrival_answer arrival_streams arrival_listing arrival-told arrival-own

pub take-apart : (r s : Result ℕ Refusal) → take_answer r ≡ take_answer s → r ≡ s
take-apart = apart take_answer take_back take_same

pub close-apart : (r s : Result Streams Refusal) → close_answer r ≡ close_answer s → close_streams r ≡ close_streams s → r ≡ s
close-apart = listed-apart close_answer close_streams close_listing close-told close-own
