-- A list of calls with what they got back, as the book reads it: its arrivals, each with the book as it stood before. Definitions only.
use Rattle.std.specs.Prelude.{ℕ, ◌+◌, ◌*◌, Bool, cond, List, [], ◌∷◌, ◌++◌, take, ℤ}
use Rattle.iq.specs.Iq as Iq
use Rattle.model.specs.Answer.{Tells, tells}
use Rattle.model.specs.Sample.{Sample, pairs}
use Rattle.model.specs.Host.{Incoming, Call, Begin, Pass, Arrival, Take, Close, TakeMissing, TakeDiscontinuity, TakeStalled, Reply}
use Rattle.account.specs.Whole.{higher}
use Rattle.account.specs.Book.{News, Quiet, Began, Took, Came, news, Book, fit, late, noted}
use Rattle.model.specs.declared.settings.Settings.{Settings}

-- a call, with the whole number that the radio gave the datagram that it brings (any number, where it brings none)
pub record Sent : Type 0 where
  pub call : Call
  pub number : ℤ

abbrev pub calls_of : List Sent → List Call
calls_of [] = []
calls_of (c ∷ cs) = c.call ∷ calls_of cs

-- the samples that a Take handed out, as its buffer holds them on return
abbrev pub gave : Call → Reply → List Sample
gave (Take now buffer) r = pairs (take (2 * (tells r.answer).handed) r.buffer)
gave (Begin now) r = []
gave (Pass now packets) r = []
gave (Arrival i packets) r = []
gave (Close packets) r = []
gave TakeMissing r = []
gave TakeDiscontinuity r = []
gave TakeStalled r = []

-- a call and what it got back, as the book reads them
pub record Line : Type 0 where
  pub news : News
  pub number : ℤ
  pub says : Tells
  pub out : List Sample

abbrev pub line_of : Settings → Sent → Reply → Line
line_of s c r =
    record { news = news s c.call (tells r.answer).refusal; number = c.number; says = tells r.answer; out = gave c.call r }

abbrev pub paired : Settings → List Sent → List Reply → List Line
paired s [] rs = []
paired s (c ∷ cs) [] = []
paired s (c ∷ cs) (r ∷ rs) = line_of s c r ∷ paired s cs rs

abbrev pub all_handed_out : List Line → List Sample
all_handed_out [] = []
all_handed_out (l ∷ ls) = l.out ++ all_handed_out ls

-- ---- the arrivals

pub record Entry : Type 0 where
  pub book : Book
  pub incoming : Incoming
  pub count : ℕ
  pub number : ℤ
  pub says : Tells

abbrev pub entry : Book → News → ℤ → Tells → List Entry
entry b (Came i count) n a = record { book = b; incoming = i; count = count; number = n; says = a } ∷ []
entry b Quiet n a = []
entry b (Began now) n a = []
entry b (Took now) n a = []

abbrev pub ledger : Settings → Book → List Line → List Entry
ledger s b [] = []
ledger s b (l ∷ ls) = entry b l.news l.number l.says ++ ledger s (noted s b l.news l.number) ls

-- whether an arrival fits, and whether it fits below e
abbrev pub fitting : Settings → Entry → Bool
fitting s x = fit s x.book x.incoming.now x.number

abbrev pub late_entry : Entry → Bool
late_entry x = late x.book x.number

-- all arrivals but those that fit below e, which are answered Stale
abbrev pub accepted_in : List Entry → List Entry
accepted_in [] = []
accepted_in (x ∷ xs) = cond (late_entry x) (accepted_in xs) (x ∷ accepted_in xs)

-- the samples of arrivals, in the datagrams' order
abbrev pub samples_in : Entry → List Sample
samples_in x = pairs (Iq.samples_of x.incoming.octets)

abbrev pub samples_of : List Entry → List Sample
samples_of [] = []
samples_of (x ∷ xs) = samples_in x ++ samples_of xs

-- missing told means the answers'
abbrev pub missing_told : List Entry → ℕ
missing_told [] = 0
missing_told (x ∷ xs) = x.says.missing + missing_told xs

abbrev pub highest : ℤ → List Entry → ℤ
highest n [] = n
highest n (x ∷ xs) = highest (higher n x.number) xs
