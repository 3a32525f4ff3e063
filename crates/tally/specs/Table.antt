-- An account as the code keeps it: the stretches but the last in a table, seven numbers each, and the last beside it. Definitions only.
use Rattle.std.specs.Prelude.{ℕ, zero, suc, ◌+◌, ◌-◌, ◌*◌, Bool, true, false, List, [], ◌∷◌, ◌++◌, ◌==◌, nat_lt, slice_index}
use Rattle.base.specs.Pick.{pick}
use Rattle.octets.specs.Written.{written}
use Rattle.tally.specs.Stretch.{sum, first_of, more_of}
use Rattle.tally.specs.declared.record.Event.{Event}
use Rattle.tally.specs.declared.record.Event.TheVariants.{InOrder, Gap, Stale, Restart}
use Rattle.tally.specs.declared.record.Record.{Record}
use Rattle.tally.specs.declared.stretch.Stretch.{Stretch}
use Rattle.tally.specs.declared.account.Account.{Account}

-- the most stretches of a session
abbrev pub most_stretches : ℕ
most_stretches = 4096

abbrev pub blank : Stretch
blank = record { at = 0; last = 0; first = 0; restart = 0; highest = 0; samples = 0; missing = 0 }

abbrev pub empty : Account
empty = record { stretches = 0; last = blank; handed = 0 }

-- ---- which stretches it holds

-- its numbers in the table
abbrev pub numbers_of : Stretch → List ℕ
numbers_of s = s.at ∷ s.last ∷ s.first ∷ s.restart ∷ s.highest ∷ s.samples ∷ s.missing ∷ []

unfoldable pub stretch_at : List ℕ → ℕ → Stretch
stretch_at table i =
    record {
      at = slice_index table (7 * i);
      last = slice_index table (7 * i + 1);
      first = slice_index table (7 * i + 2);
      restart = slice_index table (7 * i + 3);
      highest = slice_index table (7 * i + 4);
      samples = slice_index table (7 * i + 5);
      missing = slice_index table (7 * i + 6);
    }

-- the first n of the table
unfoldable pub kept : List ℕ → ℕ → List Stretch
kept table zero = []
kept table (suc n) = kept table n ++ (stretch_at table n ∷ [])

-- so many, of which this is the last
unfoldable pub ending_in : List ℕ → ℕ → Stretch → List Stretch
ending_in table zero last = []
ending_in table (suc n) last = kept table n ++ (last ∷ [])

abbrev pub stretches_of : List ℕ → Account → List Stretch
stretches_of table a = ending_in table a.stretches a.last

-- ---- what is noted

-- the account after an arrival, or as it was where there is no room for another stretch
pub record Noted : Type 0 where
  pub account : Account
  pub fits : Bool

abbrev pub holding : Account → ℕ → Stretch → Account
holding a n last = record { stretches = n; last = last; handed = a.handed }

abbrev pub fitting : Account → Noted
fitting a = record { account = a; fits = true }

-- one more, where there is room; else all is as it was
abbrev pub begins : Account → Record → Noted
begins a x =
    pick (nat_lt a.stretches most_stretches) (fitting (holding a (a.stretches + 1) (first_of x))) (record { account = a; fits = false })

abbrev pub by_event : Event → Account → Record → Noted
by_event InOrder a x = fitting (holding a a.stretches (more_of a.last x))
by_event Gap a x = fitting (holding a a.stretches (more_of a.last x))
by_event Stale a x = fitting (holding a a.stretches a.last)
by_event Restart a x = begins a x

unfoldable pub note_in : Account → Record → Noted
note_in a x = pick (a.stretches == 0) (fitting (holding a 1 (first_of x))) (by_event x.event a x)

-- the last one goes to the table where another begins
abbrev pub table_by : Event → List ℕ → Account → List ℕ
table_by InOrder table a = table
table_by Gap table a = table
table_by Stale table a = table
table_by Restart table a = pick (nat_lt a.stretches most_stretches) (written table (7 * (a.stretches - 1)) (numbers_of a.last)) table

unfoldable pub table_in : List ℕ → Account → Record → List ℕ
table_in table a x = pick (a.stretches == 0) table (table_by x.event table a)

abbrev pub handing : Account → ℕ → Account
handing a pairs = record { stretches = a.stretches; last = a.last; handed = sum a.handed pairs }
