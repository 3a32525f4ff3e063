-- The records of a list of calls are its arrivals, as demand 3's book has them. Assumes nothing.
use Rattle.std.specs.Prelude.{Option, Some, None}
use Prim.Native.Nat.{ℕ}
use mathlib.Core.Path.{◌≡◌, refl, sym, ap, ◌∙◌}
use mathlib.Core.Bool.{Bool, true, false}
use mathlib.Core.List.{List, [], ◌∷◌, ◌++◌, map}
use lib.ListN.{length}
use lib.IntN.{ℤ}
use native.Mathlib.Omega.{arith}
use borrow.Author.Tests.{eqb-true, not-false, le-ltb}
use Rattle.base.specs.Told.{Told}
use Rattle.base.proofs.Picks.{pick-f, pick-either}
use Rattle.octets.specs.Number.{be_at}
use Rattle.iq.specs.Iq.{rows, count_of, header_told}
use Rattle.sequence.specs.declared.SeqEvent.{SeqEvent}
use Rattle.model.specs.Answer.{Answer, Tells, tells}
use Rattle.model.specs.Routing.{Routed, iq, status, ignored, malformed, by_header, by_offset, routed}
use Rattle.model.specs.Host.{Incoming, Call, Begin, Pass, Arrival, Take, Close, TakeMissing, TakeDiscontinuity, TakeStalled, Reply}
use Rattle.model.specs.declared.sender.Sender.{Sender}
use Rattle.model.specs.declared.sender.Sender.TheVariants.{V4, V6}
use Rattle.model.specs.declared.settings.Settings.{Settings}
use Rattle.account.specs.Book.{News, brought, news_of, news, Book, noted}
use Rattle.account.specs.Ledger.{Sent, calls_of, line_of, paired, Entry, entry, ledger}
use Rattle.account.specs.Exact.{Exact, AllLines}
use Rattle.tally.specs.declared.record.Event.{Event}
use Rattle.tally.specs.declared.record.Event.TheVariants.{InOrder}
use Rattle.tally.specs.declared.record.Record.{Record}
use Rattle.marking.specs.Records.{event_of, number_in, heard_as, record_of, records_of}

-- ---- a valid I/Q datagram's count is its number

rows-number : (b : List ℕ) (count : ℕ) → by_header (rows b (count_of b)) ≡ iq count → count ≡ number_in b
unfolding rows number_in
rows-number b count =
    pick-either _ _ _ (λ (t : Told). by_header t ≡ iq count → count ≡ number_in b) (λ h e. let z : ◌≡◌ {A = ℕ} 0 1 = cc in absurd (omega arith))
    (λ h. pick-either _ _ _ (λ (t : Told). by_header t ≡ iq count → count ≡ number_in b) (λ h e. let z : ◌≡◌ {A = ℕ} 0 1 = cc in absurd (omega arith))
    (λ _. pick-either _ _ _ (λ (t : Told). by_header t ≡ iq count → count ≡ number_in b) (λ h e. let z : ◌≡◌ {A = ℕ} 0 1 = cc in absurd (omega arith))
    (λ _ e. let k : be_at 4 b 0 ≡ count = cc in
    sym k ∙ sym (pick-f _ _ _ (le-ltb (length b) 4 (omega (arith, eqb-true (length b) 1444 (not-false _ h))))))))

offset-number : (offset : ℕ) (b : List ℕ) (count : ℕ) → by_offset offset b ≡ iq count → count ≡ number_in b
unfolding by_offset header_told
offset-number offset b count =
    pick-either _ _ _ (λ (r : Routed). r ≡ iq count → count ≡ number_in b) (λ h e. rows-number b count e)
    (λ _. pick-either _ _ _ (λ (r : Routed). r ≡ iq count → count ≡ number_in b) (λ h e. let z : ◌≡◌ {A = ℕ} 0 1 = cc in absurd (omega arith))
    (λ _. pick-either _ _ _ (λ (r : Routed). r ≡ iq count → count ≡ number_in b) (λ h e. let z : ◌≡◌ {A = ℕ} 0 1 = cc in absurd (omega arith))
    (λ h e. let z : ◌≡◌ {A = ℕ} 0 1 = cc in absurd (omega arith))))

routed-number : (radio base : ℕ) (from : Sender) (b : List ℕ) (count : ℕ) → routed radio base from b ≡ iq count → count ≡ number_in b
unfolding routed
routed-number radio base V6 b count = λ e. let z : ◌≡◌ {A = ℕ} 0 1 = cc in absurd (omega arith)
routed-number radio base (V4 ip port) b count =
    pick-either _ _ _ (λ (r : Routed). r ≡ iq count → count ≡ number_in b) (λ h e. let z : ◌≡◌ {A = ℕ} 0 1 = cc in absurd (omega arith))
    (λ _. pick-either _ _ _ (λ (r : Routed). r ≡ iq count → count ≡ number_in b) (λ h e. let z : ◌≡◌ {A = ℕ} 0 1 = cc in absurd (omega arith))
    (λ _ e. offset-number _ b count e))

-- ---- one call

-- the event of an entry, in a record's words
abbrev pub event_in : Option SeqEvent → Event
event_in None = InOrder
event_in (Some e) = event_of e

abbrev pub record_in : Entry → Record
record_in x = record { reading = x.incoming.now; number = x.count; event = event_in x.says.event; missing = x.says.missing }

module _ (s : Settings) (b : Book) (n : ℤ) where
  abbrev Recorded : News → Tells → List Record → Type 0
  Recorded w a rs = Exact s b w n a → rs ≡ map record_in (entry b w n a)

  -- an answer that tells no event
  none_told : (i : Incoming) (p : Routed) (a : Tells) → a.event ≡ None → Recorded (brought i p) a []
  none_told i (iq count) a e x = let z : ◌≡◌ {A = ℕ} 0 1 = let h = sym e ∙ x.0 in cc in absurd (omega arith)
  none_told i status a e x = refl
  none_told i ignored a e x = refl
  none_told i malformed a e x = refl

  event-told : (i : Incoming) (p : Routed) (e : SeqEvent) (m : ℕ) → ((count : ℕ) → p ≡ iq count → count ≡ number_in i.octets)
      → Recorded (brought i p) (tells (Answer.heard e m)) (heard_as i.now (number_in i.octets) (Answer.heard e m))
  event-told i (iq count) e m h x = ap (λ (k : ℕ). record { reading = i.now; number = k; event = event_of e; missing = m } ∷ []) (sym (h count refl))
  event-told i status e m h x = let z : ◌≡◌ {A = ℕ} 0 1 = let y = x.0 in cc in absurd (omega arith)
  event-told i ignored e m h x = let z : ◌≡◌ {A = ℕ} 0 1 = let y = x.0 in cc in absurd (omega arith)
  event-told i malformed e m h x = let z : ◌≡◌ {A = ℕ} 0 1 = let y = x.0 in cc in absurd (omega arith)

  arrival-recorded : (i : Incoming) (packets : List ℕ) (a : Answer)
      → Recorded (news s (Arrival i packets) (tells a).refusal) (tells a) (heard_as i.now (number_in i.octets) a)
  arrival-recorded i packets (Answer.refused k) x = refl
  arrival-recorded i packets (Answer.done w) x = none_told i (routed s.radio_ip s.port i.from i.octets) _ refl x
  arrival-recorded i packets (Answer.heard e m) x =
      event-told i (routed s.radio_ip s.port i.from i.octets) e m (routed-number s.radio_ip s.port i.from i.octets) x
  arrival-recorded i packets (Answer.took k) x = none_told i (routed s.radio_ip s.port i.from i.octets) _ refl x
  arrival-recorded i packets (Answer.slot held) x = none_told i (routed s.radio_ip s.port i.from i.octets) _ refl x
  arrival-recorded i packets (Answer.flag stalled) x = none_told i (routed s.radio_ip s.port i.from i.octets) _ refl x

  -- a call that brings none
  quiet-recorded : (c : Call) (t : Bool) (a : Tells) → entry b (news_of s c) n a ≡ [] → [] ≡ map record_in (entry b (news s c t) n a)
  quiet-recorded c true a e = refl
  quiet-recorded c false a e = ap (map record_in) (sym e)

  recorded : (c : Call) (a : Answer) → Recorded (news s c (tells a).refusal) (tells a) (record_of c a)
  recorded (Arrival i packets) a x = arrival-recorded i packets a x
  recorded (Begin now) a x = quiet-recorded (Begin now) (tells a).refusal (tells a) refl
  recorded (Pass now packets) a x = quiet-recorded (Pass now packets) (tells a).refusal (tells a) refl
  recorded (Take now buffer) a x = quiet-recorded (Take now buffer) (tells a).refusal (tells a) refl
  recorded (Close packets) a x = quiet-recorded (Close packets) (tells a).refusal (tells a) refl
  recorded TakeMissing a x = quiet-recorded TakeMissing (tells a).refusal (tells a) refl
  recorded TakeDiscontinuity a x = quiet-recorded TakeDiscontinuity (tells a).refusal (tells a) refl
  recorded TakeStalled a x = quiet-recorded TakeStalled (tells a).refusal (tells a) refl

-- ---- a list of them

map-append : (xs ys : List Entry) → map record_in (xs ++ ys) ≡ map record_in xs ++ map record_in ys
map-append [] ys = refl
map-append (x ∷ xs) ys = ap (λ (l : List Record). record_in x ∷ l) (map-append xs ys)

pub records-are : (s : Settings) (b : Book) (calls : List Sent) (rs : List Reply) → AllLines s (Exact s) b (paired s calls rs)
    → records_of (calls_of calls) rs ≡ map record_in (ledger s b (paired s calls rs))
records-are s b [] rs h = refl
records-are s b (c ∷ calls) [] h = refl
records-are s b (c ∷ calls) (r ∷ rs) h =
    let l = line_of s c r in
    let x = recorded s b c.number c.call r.answer h.0 in
    let y = records-are s (noted s b l.news l.number) calls rs h.1 in
    ap (λ (z : List Record). z ++ records_of (calls_of calls) rs) x
    ∙ ap (λ (z : List Record). map record_in (entry b l.news l.number l.says) ++ z) y
    ∙ sym (map-append (entry b l.news l.number l.says) (ledger s (noted s b l.news l.number) (paired s calls rs)))
