-- More than demand 3 asks: every answer tells the book's own event and missing, a restart's and the first arrival's too, and no other
-- call tells an event or a loss. Definitions only.
use Rattle.std.specs.Prelude.{ℕ, ◌≡◌, List, [], ◌∷◌, T, ℤ, Option, Some, None}
use Rattle.sequence.specs.declared.SeqEvent.{SeqEvent}
use Rattle.sequence.specs.declared.SeqEvent.TheVariants.{InOrder}
use Rattle.model.specs.Settings.{accepts}
use Rattle.model.specs.Host.{Host, trace}
use Rattle.account.specs.Whole.{verdict}
use Rattle.account.specs.Book.{News, Quiet, Began, Took, Came, Book, blank, limit_in, missing, noted}
use Rattle.model.specs.Answer.{Tells}
use Rattle.account.specs.Ledger.{Sent, calls_of, Line, paired, ledger}
use Rattle.base.specs.Each.{Each}
use Rattle.account.specs.Demand3.{Lies}
use Rattle.model.specs.declared.settings.Settings.{Settings}

-- the event of an arrival by the book; the first is in order
abbrev pub verdict_in : Option ℤ → ℕ → ℕ → ℤ → SeqEvent
verdict_in None limit run n = InOrder
verdict_in (Some e) limit run n = verdict limit run e n

abbrev pub Exact : Settings → Book → News → ℤ → Tells → Type 0
Exact s b Quiet n a = (a.event ≡ None) × (a.missing ≡ 0)
Exact s b (Began now) n a = (a.event ≡ None) × (a.missing ≡ 0)
Exact s b (Took now) n a = (a.event ≡ None) × (a.missing ≡ 0)
Exact s b (Came i count) n a =
    (a.event ≡ Some (verdict_in b.expected (limit_in s b i.now) b.run n)) × (a.missing ≡ missing s b i n)

abbrev pub AllLines : Settings → (Book → News → ℤ → Tells → Type 0) → Book → List Line → Type 0
AllLines s P b [] = Unit {0}
AllLines s P b (l ∷ ls) = P b l.news l.number l.says × AllLines s P (noted s b l.news l.number) ls

abbrev pub TellsAll : Host → Type 0
TellsAll h =
    (s : Settings) (now : ℕ) (calls : List Sent) → T (accepts s) →
    let ls = paired s calls (trace h (h.opened s now) (calls_of calls)) in
    Each Lies (ledger s (blank now) ls) → AllLines s (Exact s) (blank now) ls
