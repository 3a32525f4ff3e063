-- The stretches of a stream, from the records of its arrivals in order, and their sums. Definitions only.
use Rattle.std.specs.Prelude.{List, [], ◌∷◌}
use Rattle.tally.specs.Stretch.{first_of, more_of, plus_of}
use Rattle.tally.specs.declared.record.Event.{Event}
use Rattle.tally.specs.declared.record.Event.TheVariants.{InOrder, Gap, Stale, Restart}
use Rattle.tally.specs.declared.record.Record.{Record}
use Rattle.tally.specs.declared.stretch.Stretch.{Stretch}
use Rattle.tally.specs.declared.stretch.Sums.{Sums}

-- an arrival after s: one in order or after a gap belongs to it, a stale one adds nothing, and one told Restart begins another
abbrev pub after : Event → Stretch → Record → List Stretch
after InOrder s x = more_of s x ∷ []
after Gap s x = more_of s x ∷ []
after Stale s x = s ∷ []
after Restart s x = s ∷ first_of x ∷ []

-- the first arrival begins the first stretch; any other is noted in the last one
abbrev pub noted : List Stretch → Record → List Stretch
noted [] x = first_of x ∷ []
noted (s ∷ []) x = after x.event s x
noted (s ∷ t ∷ ss) x = s ∷ noted (t ∷ ss) x

abbrev pub noted_all : List Stretch → List Record → List Stretch
noted_all ss [] = ss
noted_all ss (x ∷ xs) = noted_all (noted ss x) xs

abbrev pub no_sums : Sums
no_sums = record { samples = 0; missing = 0; restart = 0 }

-- of the first to the last
abbrev pub sums_from : Sums → List Stretch → Sums
sums_from t [] = t
sums_from t (s ∷ ss) = sums_from (plus_of t s) ss

abbrev pub sums_of : List Stretch → Sums
sums_of ss = sums_from no_sums ss
