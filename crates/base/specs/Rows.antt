-- Rows of a table of refusals, tested in order. Definitions only.
use Rattle.std.specs.Prelude.{ℕ, Bool, List, [], ◌∷◌, Option, Some, None}
use Rattle.base.specs.Pick.{pick}

-- a number, and whether its row applies
pub record Row : Type 0 where
  pub number : ℕ
  pub applies : Bool

abbrev pub row : ℕ → Bool → Row
row number applies = record { number = number; applies = applies }

-- the number of the first row that applies
abbrev pub first_row : List Row → Option ℕ
first_row [] = None
first_row (r ∷ rs) = pick r.applies (Some r.number) (first_row rs)

-- what is refused by the first row that applies, and given where none does
abbrev pub unless : {A : Type 0} → List Row → (ℕ → A) → A → A
unless [] refuse answer = answer
unless (r ∷ rs) refuse answer = pick r.applies (refuse r.number) (unless rs refuse answer)
