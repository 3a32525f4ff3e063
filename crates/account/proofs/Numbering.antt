-- The demand's premise can always be met: every list of calls has whole numbers that lie as the demand says. Assumes nothing.
use Rattle.std.specs.Prelude.{Option, Some, None}
use Prim.Native.Nat.{ℕ, ◌-◌, ◌<◌, ◌^◌}
use mathlib.Core.Path.{◌≡◌, refl, ap, ◌∙◌}
use mathlib.Core.Bool.{Bool, true, false}
use mathlib.Core.List.{List, [], ◌∷◌, ◌++◌}
use native.Mathlib.Omega.{arith}
use native.Mathlib.Decide.{dec_lt}
use lib.Dec.{ltb}
use lib.IntN.{ℤ, pos, negsuc, ◌+ℤ◌, ◌-ℤ◌, +ℤ_comm, +ℤ-neg_ℤ_cancel}
use borrow.Author.Tests.{lt-ltb, le-ltb}
use Rattle.base.specs.Pick.{pick}
use Rattle.sequence.specs.Tracker.{less}
use lib.ListN.{get_or}
use Rattle.octets.proofs.Numbers.{be_at-lt}
use Rattle.base.proofs.Picks.{pick-either}
use Rattle.base.specs.Told.{Told}
use Rattle.iq.specs.Iq.{rows, header_told}
use Rattle.model.specs.Routing.{Routed, iq, status, ignored, malformed, by_header, by_offset, routed}
use Rattle.model.specs.Host.{Incoming, Call, Begin, Pass, Arrival, Take, Close, TakeMissing, TakeDiscontinuity, TakeStalled, Reply, Host, trace}
use Rattle.account.specs.Whole.{count_of, Near}
use Rattle.account.specs.Book.{News, Quiet, Began, Took, Came, brought, news, Book, blank, noted}
use Rattle.model.specs.Answer.{Tells, tells}
use Rattle.account.specs.Ledger.{Sent, calls_of, paired, Entry, entry, ledger}
use Rattle.base.specs.Each.{Each}
use Rattle.account.specs.Demand3.{NearIn, Lies}
use Rattle.account.specs.Numbering.{OfOctets, AllOfOctets, Numbered}
use Rattle.model.specs.declared.sender.Sender.{Sender}
use Rattle.model.specs.declared.sender.Sender.TheVariants.{V4, V6}
use Rattle.model.specs.declared.settings.Settings.{Settings}
use Rattle.account.proofs.Numbers.{count_small, count-on, count-back}

-- the distance of the number next to e with a count that lies d past e's, modulo 2^32
near : ℕ → ℤ
near d = pick (ltb d (2 ^ 31)) (pos d) (negsuc (2 ^ 32 - 1 - d))

abbrev choose : Option ℤ → ℕ → ℤ
choose None c = pos c
choose (Some e) c = e +ℤ near (less c (count_of e))

taken_back : (e d : ℤ) → e +ℤ d -ℤ e ≡ d
taken_back e d = ap (λ (z : ℤ). z -ℤ e) (+ℤ_comm e d) ∙ +ℤ-neg_ℤ_cancel d e

-- it has the count, and lies near
chosen : (e : ℤ) (c : ℕ) → c < 2 ^ 32 → (count_of (choose (Some e) c) ≡ c) × Near e (choose (Some e) c)
unfolding near pick less
chosen e c small =
    elim (dec_lt (less c (count_of e)) (2 ^ 31)) [
      | yes h ↦ rw (lt-ltb (less c (count_of e)) (2 ^ 31) h) (
        count-on e (less c (count_of e)) ∙ omega (arith, count_small e),
        record { low = rw (taken_back e (pos (less c (count_of e)))) (omega arith); high = rw (taken_back e (pos (less c (count_of e)))) h },
      )
      | no h ↦ rw (le-ltb (less c (count_of e)) (2 ^ 31) (omega arith)) (
        count-back e (2 ^ 32 - 1 - less c (count_of e)) (omega arith) ∙ omega (arith, count_small e),
        record {
          low = rw (taken_back e (negsuc (2 ^ 32 - 1 - less c (count_of e)))) (omega (arith, h));
          high = rw (taken_back e (negsuc (2 ^ 32 - 1 - less c (count_of e)))) (omega arith);
        },
      )
    ]

-- ---- a datagram's count is below 2^32

abbrev count_in : Routed → ℕ
count_in (iq count) = count
count_in status = 0
count_in ignored = 0
count_in malformed = 0

abbrev Small : Routed → Type 0
Small p = count_in p < 2 ^ 32

header-small : (octets : List ℕ) → ((k : ℕ) → get_or octets k 0 < 256) → Small (by_header (header_told octets))
unfolding header_told rows
header-small octets h =
    pick-either _ _ _ (λ (x : Told). Small (by_header x)) (λ _. omega arith) λ _.
    pick-either _ _ _ (λ (x : Told). Small (by_header x)) (λ _. omega arith) λ _.
    pick-either _ _ _ (λ (x : Told). Small (by_header x)) (λ _. omega arith) λ _.
    be_at-lt 4 octets 0 h

routed-small : (radio base : ℕ) (from : Sender) (octets : List ℕ) → ((k : ℕ) → get_or octets k 0 < 256) → Small (routed radio base from octets)
unfolding routed by_offset
routed-small radio base V6 octets h = omega arith
routed-small radio base (V4 ip port) octets h =
    pick-either _ _ _ Small (λ _. omega arith) λ _.
    pick-either _ _ _ Small (λ _. omega arith) λ _.
    pick-either _ _ _ Small (λ _. header-small octets h) λ _.
    pick-either _ _ _ Small (λ _. omega arith) λ _.
    pick-either _ _ _ Small (λ _. omega arith) λ _.
    omega arith

abbrev count : News → ℕ
count (Came i c) = c
count Quiet = 0
count (Began now) = 0
count (Took now) = 0

count-of : (i : Incoming) (p : Routed) → count (brought i p) ≡ count_in p
count-of i (iq k) = refl
count-of i status = refl
count-of i ignored = refl
count-of i malformed = refl

count-small-in : (s : Settings) (c : Call) (t : Bool) → OfOctets c → count (news s c t) < 2 ^ 32
count-small-in s c true h = omega arith
count-small-in s (Arrival i d) false h =
    rw (count-of i (routed s.radio_ip s.port i.from i.octets)) (routed-small s.radio_ip s.port i.from i.octets h)
count-small-in s (Begin now) false h = omega arith
count-small-in s (Pass now d) false h = omega arith
count-small-in s (Take now buffer) false h = omega arith
count-small-in s (Close d) false h = omega arith
count-small-in s TakeMissing false h = omega arith
count-small-in s TakeDiscontinuity false h = omega arith
count-small-in s TakeStalled false h = omega arith

-- ---- the number chosen lies right

lies_at : (o : Option ℤ) (c : ℕ) → c < 2 ^ 32 → (count_of (choose o c) ≡ c) × NearIn o (choose o c)
lies_at None c small = (omega arith, tt)
lies_at (Some e) c small = chosen e c small

each_append : (xs ys : List Entry) → Each Lies xs → Each Lies ys → Each Lies (xs ++ ys)
each_append [] ys h k = k
each_append (x ∷ xs) ys h k = (h.0, each_append xs ys h.1 k)

-- the entries of a line, numbered so
fine : (b : Book) (w : News) (a : Tells) → count w < 2 ^ 32 → Each Lies (entry b w (choose b.expected (count w)) a)
fine b (Came i c) a small = (lies_at b.expected c small, tt)
fine b Quiet a small = tt
fine b (Began now) a small = tt
fine b (Took now) a small = tt

module _ (s : Settings) where
  module _ (h : Host) (b : Book) (at : h.State) (c : Call) where
    abbrev got : Reply
    got = (h.step at c).reply

    abbrev seen : News
    seen = news s c (tells got.answer).refusal

    abbrev sent : Sent
    sent = record { call = c; number = choose b.expected (count seen) }

  abbrev number : (h : Host) → Book → h.State → List Call → List Sent
  number h b at [] = []
  number h b at (c ∷ cs) = sent h b at c ∷ number h (noted s b (seen h b at c) (sent h b at c).number) (h.step at c).state cs

  lies : (h : Host) (b : Book) (at : h.State) (cs : List Call) → AllOfOctets cs →
      Each Lies (ledger s b (paired s (number h b at cs) (trace h at (calls_of (number h b at cs)))))
  lies h b at [] p = tt
  lies h b at (c ∷ cs) p =
      let w = seen h b at c in
      let n = (sent h b at c).number in
      let a = tells (got h b at c).answer in
      let next = number h (noted s b w n) (h.step at c).state cs in
      each_append (entry b w n a) (ledger s (noted s b w n) (paired s next (trace h (h.step at c).state (calls_of next))))
      (fine b w a (count-small-in s c a.refusal p.0))
      (lies h (noted s b w n) (h.step at c).state cs p.1)

  calls-of : (h : Host) (b : Book) (at : h.State) (cs : List Call) → calls_of (number h b at cs) ≡ cs
  calls-of h b at [] = refl
  calls-of h b at (c ∷ cs) = ap (λ (l : List Call). c ∷ l) (calls-of h (noted s b (seen h b at c) (sent h b at c).number) (h.step at c).state cs)

-- of any host
pub numbered : (h : Host) (s : Settings) (now : ℕ) (calls : List Call) → AllOfOctets calls → Numbered h s now calls
numbered h s now calls p = (
  number s h (blank now) (h.opened s now) calls,
  calls-of s h (blank now) (h.opened s now) calls,
  lies s h (blank now) (h.opened s now) calls p,
)
