-- Demand 3's stretches of a list of arrivals, and what is told of each, in whole numbers. Definitions only.
use Rattle.std.specs.Prelude.{ℕ, ◌+◌, ◌%◌, ◌^◌, ◌≡◌, ◌≢◌, Bool, true, false, cond, List, [], ◌∷◌, ◌++◌, length, ◌-ℤ◌, Option, Some, None}
use Rattle.base.specs.Each.{Each}
use Rattle.sequence.specs.declared.SeqEvent.{SeqEvent}
use Rattle.sequence.specs.declared.SeqEvent.TheVariants.{InOrder, Gap, Stale, Restart}
use Rattle.account.specs.Whole.{ahead}
use Rattle.account.specs.Ledger.{Entry, accepted_in, samples_of, missing_told, highest}
use Rattle.tally.specs.declared.stretch.Stretch.{Stretch}

-- a stretch: its first arrival, and those after it up to the next one told Restart or the list's end
pub record Span : Type 0 where
  pub first : Entry
  pub others : List Entry

abbrev pub is_restart : Option SeqEvent → Bool
is_restart None = false
is_restart (Some InOrder) = false
is_restart (Some (Gap n)) = false
is_restart (Some Stale) = false
is_restart (Some Restart) = true

-- ---- the stretches of a list

-- the arrivals before the first one that is told Restart, and the stretches from it on
pub record Cut : Type 0 where
  pub front : List Entry
  pub spans : List Span

-- the stretches from x on, if x begins one
abbrev pub from : Entry → Cut → List Span
from x u = record { first = x; others = u.front } ∷ u.spans

-- x, told Restart, before what is cut so; and x, told anything else
abbrev pub broken : Entry → Cut → Cut
broken x u = record { front = []; spans = from x u }

abbrev pub unbroken : Entry → Cut → Cut
unbroken x u = record { front = x ∷ u.front; spans = u.spans }

abbrev pub cut : List Entry → Cut
cut [] = record { front = []; spans = [] }
cut (x ∷ xs) = cond (is_restart x.says.event) (broken x (cut xs)) (unbroken x (cut xs))

-- the first stretch begins with the first arrival
abbrev pub spans_of : List Entry → List Span
spans_of [] = []
spans_of (x ∷ xs) = from x (cut xs)

-- ---- that these are demand 3's: all arrivals in order, each stretch but the first begun by Restart, and none within one

abbrev pub arrivals_in : List Span → List Entry
arrivals_in [] = []
arrivals_in (p ∷ ps) = (p.first ∷ p.others) ++ arrivals_in ps

abbrev pub Steady : Span → Type 0
Steady p = Each (λ y. y.says.event ≢ Some Restart) p.others

abbrev pub Begun : List Span → Type 0
Begun [] = Unit {0}
Begun (p ∷ ps) = Each (λ q. q.first.says.event ≡ Some Restart) ps

pub record Splits (entries : List Entry) (ps : List Span) : Type 0 where
  pub all : arrivals_in ps ≡ entries
  pub begun : Begun ps
  pub steady : Each Steady ps

-- ---- what is told

-- the reading of the last of them
abbrev pub last_reading_of : ℕ → List Entry → ℕ
last_reading_of now [] = now
last_reading_of now (x ∷ xs) = last_reading_of x.incoming.now xs

-- the first number is its count, and the highest is counted on from it; a number that is told is one of 64 bits
unfoldable pub told_of : Span → Stretch
told_of p =
    record {
      at = p.first.incoming.now;
      last = last_reading_of p.first.incoming.now (accepted_in p.others);
      first = p.first.count;
      restart = p.first.says.missing;
      highest = (p.first.count + ahead (highest p.first.number (accepted_in p.others) -ℤ p.first.number)) % 2 ^ 64;
      samples = length (samples_of (p.first ∷ accepted_in p.others)) % 2 ^ 64;
      missing = missing_told p.others % 2 ^ 64;
    }
