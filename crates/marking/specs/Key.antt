-- What the account of a list of calls says, beside demand 3's book of the same list. Definitions only.
use Rattle.std.specs.Prelude.{ℕ, ◌+◌, ◌%◌, ◌≤◌, ◌^◌, ◌≡◌, List, map, length}
use Rattle.base.specs.Each.{Each}
use Rattle.model.specs.Host.{Call, Reply}
use Rattle.model.specs.Sample.{Sample}
use Rattle.account.specs.Book.{blank}
use Rattle.account.specs.Ledger.{Sent, calls_of, Line, paired, all_handed_out, Entry, ledger, accepted_in, samples_of, missing_told}
use Rattle.account.specs.Demand3.{Lies}
use Rattle.model.specs.declared.settings.Settings.{Settings}
use Rattle.tally.specs.Stretch.{Even}
use Rattle.tally.specs.Stretches.{sums_of}
use Rattle.marking.specs.Records.{pairs_in, stretches_told}
use Rattle.marking.specs.Spans.{spans_of, Splits, told_of}

-- the claim about calls and what they got back: their lines and arrivals by the book, the samples that wait after them, and how many are
-- told to wait
pub record Keyed (calls : List Call) (replies : List Reply) (ls : List Line) (entries : List Entry) (waiting : List Sample) (left : ℕ) : Type 0 where
  -- the arrivals are cut where demand 3's stretches begin
  pub splits : Splits entries (spans_of entries)
  -- as many stretches are told, each as the book has it
  pub stretches : stretches_told calls replies ≡ map told_of (spans_of entries)
  -- the sum of their samples is that of all accepted arrivals
  pub samples : (sums_of (stretches_told calls replies)).samples ≡ length (samples_of (accepted_in entries)) % 2 ^ 64
  -- what they tell missing, after their first arrivals and with them, is together all that was told
  pub missing :
      ((sums_of (stretches_told calls replies)).missing + (sums_of (stretches_told calls replies)).restart) % 2 ^ 64 ≡ missing_told entries % 2 ^ 64
  -- the pairs handed out, and those that wait; together they are all that were accepted
  pub handed : pairs_in calls replies ≡ length (all_handed_out ls)
  pub waits : left ≡ length waiting
  pub flow : pairs_in calls replies + left ≡ length (samples_of (accepted_in entries))
  -- in each stretch, as it is told, samples + missing = 238 × (highest - first + 1): nothing passes 2^64 in so many calls
  pub even : length calls ≤ 2 ^ 25 → Each Even (stretches_told calls replies)

-- of calls, each with the whole number of the datagram that it brings, where each arrival's number lies as demand 3 says
abbrev pub Key : Settings → ℕ → List Sent → List Reply → List Sample → ℕ → Type 0
Key s now calls replies waiting left =
    let ls = paired s calls replies in
    let entries = ledger s (blank now) ls in
    Each Lies entries → Keyed (calls_of calls) replies ls entries waiting left
