-- A stream that the practice radio sends falls under demand 3, and what is handed out are the given numbers over 2^23. Assumes nothing.
use Prim.Native.Nat.{ℕ, ◌+◌, ◌-◌, ◌^◌, ◌<◌}
use mathlib.Core.Path.{◌≡◌, refl, sym, ap, ◌∙◌}
use mathlib.Core.Bool.{Bool, true, false, not, cond}
use mathlib.Core.List.{List, [], ◌∷◌, ◌++◌, map}
use native.Mathlib.Omega.{arith}
use lib.ListN.{length, get_or}
use lib.IntN.{ℤ}
use lib.Ieee.{Float}
use borrow.Author.Tests.{eq-eqb, le-ltb}
use Rattle.base.specs.Each.{Each}
use Rattle.base.specs.Told.{Told, gives, refused}
use Rattle.base.proofs.Picks.{pick-t, pick-f, pick-either}
use Rattle.octets.specs.Number.{be_at}
use Rattle.iq.specs.Iq as Iq
use Rattle.iq.specs.Iq.{header_told}
use Rattle.iq.proofs.Headers.{given-count}
use Rattle.model.specs.Sample.{pairs}
use Rattle.model.specs.Routing.{Routed, iq, status, ignored, malformed, by_header, by_offset, routed}
use Rattle.model.specs.Host.{Incoming, Call, Begin, Pass, Arrival, Take, Close, TakeMissing, TakeDiscontinuity, TakeStalled, Reply, trace}
use Rattle.model.specs.Answer.{tells}
use Rattle.model.specs.Session.{opened_with, session}
use Rattle.model.specs.declared.sender.Sender.{Sender}
use Rattle.model.specs.declared.sender.Sender.TheVariants.{V4, V6}
use Rattle.model.specs.declared.settings.Settings.{Settings}
use Rattle.account.specs.Whole.{count_of}
use Rattle.account.specs.Book.{News, Quiet, Began, Took, Came, brought, news, Book, blank, noted}
use Rattle.account.specs.Ledger.{Sent, calls_of, line_of, paired, Entry, entry, ledger, late_entry, accepted_in, samples_of}
use Rattle.account.specs.Demand3.{Lies}
use Rattle.account.proofs.Numbers.{count_small}
use Rattle.account.proofs.Demand3.{demand3}
use Rattle.radio_packets.specs.Iq.{is_pairs, iq_datagram}
use Rattle.radio_packets.specs.Back.{over23}
use Rattle.radio_packets.proofs.Backs.{header-told, iq-back}
use Rattle.rehearsal.specs.Stream.{Aired, given_in, Rehearsed}

-- ---- a datagram that the radio wrote, sent from its I/Q port, is a valid one with its count

pub is-valid : (ip port count : ℕ) (xs : List ℤ) → count < 2 ^ 32 → is_pairs xs ≡ true → routed ip port (V4 ip (port + 11)) (iq_datagram count xs) ≡ iq count
unfolding routed by_offset
is-valid ip port count xs small h =
    let offset : port + 11 - port ≡ 11 = omega arith in
    pick-f _ _ _ (ap not (eq-eqb ip ip refl))
    ∙ pick-f _ _ _ (le-ltb (port + 11) port (omega arith))
    ∙ pick-t _ _ _ (eq-eqb (port + 11 - port) 11 offset)
    ∙ ap by_header (header-told count xs small h)

-- ---- what an arrival's count is: that of its datagram's header

abbrev Headed : List ℕ → Routed → Type 0
Headed octets (iq count) = gives (count ∷ []) ≡ header_told octets
Headed octets status = Unit {0}
Headed octets ignored = Unit {0}
Headed octets malformed = Unit {0}

by-header : (octets : List ℕ) (t : Told) → header_told octets ≡ t → Headed octets (by_header t)
by-header octets (gives vs) e = ap (λ (l : List ℕ). gives (get_or l 0 0 ∷ [])) g ∙ sym (ap gives g) ∙ sym e
  where
    g : vs ≡ be_at 4 octets 0 ∷ []
    g = given-count octets vs (sym e)
by-header octets (refused k vs) e = tt

routed-headed : (radio base : ℕ) (from : Sender) (octets : List ℕ) → Headed octets (routed radio base from octets)
unfolding routed by_offset
routed-headed radio base V6 octets = tt
routed-headed radio base (V4 ip port) octets =
    pick-either _ malformed _ (Headed octets) (λ _. tt) λ _.
    pick-either _ malformed _ (Headed octets) (λ _. tt) λ _.
    pick-either _ (by_header (header_told octets)) _ (Headed octets) (λ _. by-header octets (header_told octets) refl) λ _.
    pick-either _ status _ (Headed octets) (λ _. tt) λ _.
    pick-either _ ignored malformed (Headed octets) (λ _. tt) (λ _. tt)

-- what a line brings
abbrev HeadedNews : News → Type 0
HeadedNews (Came i count) = gives (count ∷ []) ≡ header_told i.octets
HeadedNews Quiet = Unit {0}
HeadedNews (Began now) = Unit {0}
HeadedNews (Took now) = Unit {0}

brought-headed : (i : Incoming) (p : Routed) → Headed i.octets p → HeadedNews (brought i p)
brought-headed i (iq count) h = h
brought-headed i status h = tt
brought-headed i ignored h = tt
brought-headed i malformed h = tt

news-headed : (s : Settings) (c : Call) (refusal : Bool) → HeadedNews (news s c refusal)
news-headed s c true = tt
news-headed s (Begin now) false = tt
news-headed s (Take now buffer) false = tt
news-headed s (Arrival i packets) false = brought-headed i (routed s.radio_ip s.port i.from i.octets) (routed-headed s.radio_ip s.port i.from i.octets)
news-headed s (Pass now packets) false = tt
news-headed s (Close packets) false = tt
news-headed s TakeMissing false = tt
news-headed s TakeDiscontinuity false = tt
news-headed s TakeStalled false = tt

abbrev HeadedEntry : Entry → Type 0
HeadedEntry x = gives (x.count ∷ []) ≡ header_told x.incoming.octets

ledger-headed : (s : Settings) (b : Book) (calls : List Sent) (rs : List Reply) → Each HeadedEntry (ledger s b (paired s calls rs))
ledger-headed s b [] rs = tt
ledger-headed s b (c ∷ cs) [] = tt
ledger-headed s b (c ∷ cs) (r ∷ rs) =
    let l = line_of s c r in
    joined l.news (news-headed s c.call (tells r.answer).refusal) (ledger s (noted s b l.news l.number) (paired s cs rs)) (ledger-headed s (noted s b l.news l.number) cs rs)
  where
    joined : (w : News) → HeadedNews w → (xs : List Entry) → Each HeadedEntry xs → Each HeadedEntry (entry b w (line_of s c r).number (line_of s c r).says ++ xs)
    joined (Came i count) h xs t = (h, t)
    joined Quiet h xs t = t
    joined (Began now) h xs t = t
    joined (Took now) h xs t = t

-- ---- the claim

module _ (given : Incoming → List ℤ) where
  lies : (xs : List Entry) → Each HeadedEntry xs → Each (Aired given) xs → Each Lies xs
  lies [] h a = tt
  lies (x ∷ xs) h a =
      let air = a.0 in
      let told = h.0 ∙ ap header_told air.written ∙ header-told (count_of x.number) (given x.incoming) (count_small x.number) air.pairs in
      ((sym (one told), air.near), lies xs h.1 a.1)
    where
      one : {m n : ℕ} → gives (m ∷ []) ≡ gives (n ∷ []) → m ≡ n
      one e = cc

  accepted-aired : (xs : List Entry) → Each (Aired given) xs → Each (Aired given) (accepted_in xs)
  accepted-aired [] a = tt
  accepted-aired (x ∷ xs) a = go (late_entry x) (accepted-aired xs a.1)
    where
      go : (b : Bool) → Each (Aired given) (accepted_in xs) → Each (Aired given) (cond b (accepted_in xs) (x ∷ accepted_in xs))
      go true r = r
      go false r = (a.0, r)

  samples-given : (xs : List Entry) → Each (Aired given) xs → samples_of xs ≡ given_in given xs
  samples-given [] a = refl
  samples-given (x ∷ xs) a =
      let air = a.0 in
      let back = iq-back (count_of x.number) (given x.incoming) (count_small x.number) air.pairs in
      let one : pairs (Iq.samples_of x.incoming.octets) ≡ pairs (map over23 (given x.incoming)) = ap (λ (l : List ℕ). pairs (Iq.samples_of l)) air.written ∙ ap pairs back.samples in
      rw (one, samples-given xs a.1) refl

module _ (samples : List Float) (size : length samples ≡ 476) where
  pub rehearsed : Rehearsed (session samples)
  rehearsed s now calls given ok aired =
      let replies = trace (session samples) (opened_with samples s now) (calls_of calls) in
      let entries = ledger s (blank now) (paired s calls replies) in
      let agrees = demand3 samples size s now calls ok (lies given entries (ledger-headed s (blank now) calls replies) aired) in
      (agrees, agrees.samples ∙ samples-given given (accepted_in entries) (accepted-aired given entries aired))
