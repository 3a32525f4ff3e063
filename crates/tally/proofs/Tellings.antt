-- The sums over the stretches, one after another, and the rows that are told. Assumes nothing.
use Rattle.std.proofs.Common.{◌≡◌, ℕ, ◌+◌, ◌<◌, ◌≤◌, List, length, get_or, drop, sym, ap, ◌∙◌, add-one, drop_of_length-le, drop-cons}
use Rattle.tally.specs.Stretch.{plus_of}
use Rattle.tally.specs.Stretches.{sums_from, sums_of}
use Rattle.tally.specs.Table.{blank}
use Rattle.tally.specs.declared.stretch.Stretch.{Stretch}
use Rattle.tally.specs.declared.stretch.Sums.{Sums}

-- ---- sums

-- the i-th is added, and those behind it are left
pub one-added : (ss : List Stretch) (i : ℕ) (t t' : Sums) (s : Stretch) → i < length ss → s ≡ get_or ss i blank → t' ≡ plus_of t s
    → sums_from t' (drop (i + 1) ss) ≡ sums_from t (drop i ss)
one-added ss i t t' s h es et = rw (et, es, drop-cons ss i blank h, add-one i)

pub all-added : (ss : List Stretch) (i : ℕ) (t : Sums) → length ss ≤ i → sums_from t (drop i ss) ≡ sums_of ss → t ≡ sums_of ss
all-added ss i t h e = ap (sums_from t) (sym (drop_of_length-le ss {i = i} h)) ∙ e
