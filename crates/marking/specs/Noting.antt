-- What the code makes of a call and its answer, as numbers in lent buffers. Definitions only.
use Rattle.std.specs.Prelude.{ℕ, ◌≡◌, List, [], ◌∷◌, eqb, Option, Some, None}
use Rattle.base.specs.Pick.{pick}
use Rattle.model.specs.Answer.{Answer, refused, done, heard, took, slot, flag}
use Rattle.encoding.specs.Lists.{part}
use Rattle.encoding.specs.declared.words.Words.{Words}
use Rattle.tally.specs.Table.{Noted, fitting, note_in, table_in, handing}
use Rattle.tally.specs.declared.record.Event.{Event}
use Rattle.tally.specs.declared.record.Record.{Record}
use Rattle.tally.specs.declared.account.Account.{Account}
use Rattle.answers.specs.Code.{answer_of}
use Rattle.marking.specs.Records.{event_of, number_in, heard_as}

abbrev pub said_of : Answer → Option Event
said_of (heard e missing) = Some (event_of e)
said_of (refused k) = None
said_of (done word) = None
said_of (took n) = None
said_of (slot held) = None
said_of (flag stalled) = None

-- what an answer of this code says, whatever its value
pub record SaidBy (code : ℕ) (r : Option Event) : Type 0 where
  pub says : (value : ℕ) → r ≡ said_of (answer_of code value)

-- at most one record
abbrev pub noted_by : Account → List Record → Noted
noted_by a [] = fitting a
noted_by a (x ∷ xs) = note_in a x

abbrev pub table_noted : List ℕ → Account → List Record → List ℕ
table_noted t a [] = t
table_noted t a (x ∷ xs) = table_in t a x

abbrev pub handed_by : Account → Answer → Account
handed_by a (took n) = handing a n
handed_by a (refused k) = a
handed_by a (done word) = a
handed_by a (heard e missing) = a
handed_by a (slot held) = a
handed_by a (flag stalled) = a

abbrev pub heard_in : Words → List ℕ → Answer → List Record
heard_in w octets answer = heard_as w.reading (number_in (part 0 w.octets octets)) answer

-- kind 2 is an Arrival, 3 a Take
unfoldable pub note_of : Account → Words → List ℕ → Answer → Noted
note_of a w octets answer =
    pick (eqb w.kind 2) (noted_by a (heard_in w octets answer))
    (pick (eqb w.kind 3) (fitting (handed_by a answer)) (fitting a))

unfoldable pub table_of : List ℕ → Account → Words → List ℕ → Answer → List ℕ
table_of t a w octets answer = pick (eqb w.kind 2) (table_noted t a (heard_in w octets answer)) t
