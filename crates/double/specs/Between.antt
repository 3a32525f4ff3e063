-- A whole number that is taken of a fraction, where the fraction is known to within a part in 2 ^ 50. Definitions only.
use Rattle.std.specs.Prelude.{ℕ, ◌*◌, ◌≤◌}

-- 2 ^ 50, and one more
abbrev pub parts : ℕ
parts = 1125899906842624

abbrev pub one_part_more : ℕ
one_part_more = 1125899906842625

-- n lies between what g gives of a / c with a part in 2 ^ 50 taken off, and with as much added
pub record Between (g : ℕ → ℕ → ℕ) (n a c : ℕ) : Type 0 where
  pub least : g (a * parts) (c * one_part_more) ≤ n
  pub most : n ≤ g (a * one_part_more) (c * parts)
