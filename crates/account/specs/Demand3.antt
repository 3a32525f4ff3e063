-- Demand 3: the account of the radio's stream agrees with the unbroken stream in whole numbers, over a whole list of calls from a
-- session just opened. A single claim, about any host. Definitions only.
use Rattle.std.specs.Prelude.{ℕ, ◌+◌, ◌≡◌, ◌⊎◌, ◌≢◌, ◌↔◌, List, [], ◌∷◌, ◌++◌, length, T, ℤ, pos, ◌+ℤ◌, ◌-ℤ◌, ◌*ℤ◌, Option, Some, None}
use Rattle.stream.specs.Size.{per_datagram}
use Rattle.base.specs.Each.{Each}
use Rattle.sequence.specs.declared.SeqEvent.TheVariants.{InOrder, Stale, Restart}
use Rattle.model.specs.Settings.{accepts}
use Rattle.model.specs.Sample.{Sample}
use Rattle.model.specs.Host.{Reply, Host, trace, final}
use Rattle.account.specs.Whole.{count_of, Near, Below}
use Rattle.account.specs.Book.{News, Quiet, Began, Took, Came, blank}
use Rattle.model.specs.Answer.{Tells}
use Rattle.account.specs.Ledger.{Sent, calls_of, Line, paired, all_handed_out, Entry, ledger, fitting, late_entry, accepted_in, samples_of, missing_told, highest}
use Rattle.model.specs.declared.settings.Settings.{Settings}

abbrev pub NearIn : Option ℤ → ℤ → Type 0
NearIn None n = Unit {0}
NearIn (Some e) n = Near e n

-- the premise: an arrival's whole number is its count modulo 2^32 and, after the first, lies from 2^31 below e to 2^31 - 1 above
abbrev pub Lies : Entry → Type 0
Lies x = (count_of x.number ≡ x.count) × NearIn x.book.expected x.number

-- Restart is told exactly where an arrival doesn't fit, Stale exactly where it fits below e; the first is in order
pub record Judged (s : Settings) (x : Entry) : Type 0 where
  pub restart : (x.says.event ≡ Some Restart) ↔ ¬ T (fitting s x)
  pub stale : (x.says.event ≡ Some Stale) ↔ T (late_entry x)
  pub first : x.book.expected ≡ None → x.says.event ≡ Some InOrder

-- a stretch runs from the first arrival, or from one told Restart, up to the next one told Restart or the list's end
abbrev pub Stretch : List Entry → List Entry → Entry → List Entry → List Entry → Type 0
Stretch entries before x xs past =
    (entries ≡ before ++ (x ∷ (xs ++ past))) × ((before ≡ []) ⊎ (x.says.event ≡ Some Restart)) × Each (λ y. y.says.event ≢ Some Restart) xs

abbrev pub Rising : ℤ → List Entry → Type 0
Rising n [] = Unit {0}
Rising n (x ∷ xs) = Below n x.number × Rising x.number xs

-- in each stretch the accepted numbers rise, and samples + missing told after its first arrival = 238 × (highest - first + 1)
pub record Sums (x : Entry) (xs : List Entry) : Type 0 where
  pub rising : Rising x.number (accepted_in xs)
  pub sum : pos (length (samples_of (x ∷ accepted_in xs)) + missing_told xs)
      ≡ pos per_datagram *ℤ (highest x.number (accepted_in xs) -ℤ x.number +ℤ pos 1)

-- a call that brings no arrival tells no event and no missing
abbrev pub Mute : News → Tells → Type 0
Mute (Came i count) a = Unit {0}
Mute Quiet a = (a.event ≡ None) × (a.missing ≡ 0)
Mute (Began now) a = (a.event ≡ None) × (a.missing ≡ 0)
Mute (Took now) a = (a.event ≡ None) × (a.missing ≡ 0)

-- the claim about the lines of a list, the samples that wait after it, and its arrivals
pub record Agrees (s : Settings) (ls : List Line) (waiting : List Sample) (entries : List Entry) : Type 0 where
  pub each : Each (Judged s) entries
  pub others : Each (λ l. Mute l.news l.says) ls
  -- what the Takes handed out and then what still waits: exactly the accepted arrivals' samples, as these came
  pub samples : all_handed_out ls ++ waiting ≡ samples_of (accepted_in entries)
  pub sums : (before : List Entry) (x : Entry) (xs past : List Entry) → Stretch entries before x xs past → Sums x xs

-- of calls, each with the whole number of the datagram that it brings, what they got back, and the samples that wait after them
abbrev pub Account : Settings → ℕ → List Sent → List Reply → List Sample → Type 0
Account s now calls replies waiting =
    let ls = paired s calls replies in
    let entries = ledger s (blank now) ls in
    Each Lies entries → Agrees s ls waiting entries

-- of a host just opened
abbrev pub Demand3 : Host → Settings → ℕ → List Sent → Type 0
Demand3 h s now calls =
    Account s now calls (trace h (h.opened s now) (calls_of calls)) (h.waiting (final h (h.opened s now) (calls_of calls)))

-- of all accepted settings, opening readings and lists of calls
abbrev pub Meets : Host → Type 0
Meets h = (s : Settings) (now : ℕ) (calls : List Sent) → T (accepts s) → Demand3 h s now calls
