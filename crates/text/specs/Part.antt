-- The parts of a text. Definitions only.
use Rattle.std.specs.Prelude.{◌≡◌, ℕ, List, ◌++◌}

-- t is what follows some place of s
pub record Behind (s t : List ℕ) : Type 0 where
  pub front : List ℕ
  pub cut : s ≡ front ++ t

-- w stands in s
pub record StandsIn (s w : List ℕ) : Type 0 where
  pub front : List ℕ
  pub back : List ℕ
  pub cut : s ≡ front ++ (w ++ back)
