-- What is told of a session's account: rows of numbers. Definitions only.
use Rattle.std.specs.Prelude.{ℕ, ◌+◌, List, [], ◌∷◌, length, ◌==◌, nat_lt, slice_index_or}
use Rattle.base.specs.Pick.{pick}
use Rattle.tally.specs.Stretches.{sums_of}
use Rattle.tally.specs.Table.{blank}
use Rattle.tally.specs.declared.stretch.Stretch.{Stretch}
use Rattle.tally.specs.declared.stretch.Sums.{Sums}
use Rattle.tally.specs.declared.rows.End.{End}
use Rattle.tally.specs.declared.rows.Row.{Row}

-- stretch k, its first arrival's and its last accepted one's reading, first and highest number, samples, missing, the restart's missing
abbrev pub stretch_row : ℕ → Stretch → Row
stretch_row k s =
    record {
      line = 0;
      numbers = k ∷ s.at ∷ s.last ∷ s.first ∷ s.highest ∷ s.samples ∷ s.missing ∷ s.restart ∷ [];
    }

-- how many stretches, their sums, the pairs handed out and those that wait
abbrev pub total_row : ℕ → Sums → ℕ → ℕ → Row
total_row n t handed waiting =
    record { line = 1; numbers = n ∷ t.samples ∷ t.missing ∷ t.restart ∷ handed ∷ waiting ∷ 0 ∷ 0 ∷ [] }

-- dropped, gaps, malformed, the loss total
abbrev pub counters_row : End → Row
counters_row e = record { line = 2; numbers = e.dropped ∷ e.gaps ∷ e.malformed ∷ e.loss ∷ 0 ∷ 0 ∷ 0 ∷ 0 ∷ [] }

-- in stretch n, after its highest number
abbrev pub gap_row : ℕ → Stretch → ℕ → ℕ → Row
gap_row n s datagrams samples = record { line = 3; numbers = n ∷ s.highest ∷ datagrams ∷ samples ∷ 0 ∷ 0 ∷ 0 ∷ 0 ∷ [] }

-- row k, from 0: the stretches, numbered from 1, then the sums, then the counters
unfoldable pub row_at : List Stretch → ℕ → End → ℕ → Row
row_at ss handed e k =
    pick (nat_lt k (length ss)) (stretch_row (k + 1) (slice_index_or ss k blank))
    (pick (k == length ss) (total_row (length ss) (sums_of ss) handed e.waiting)
    (counters_row e))
