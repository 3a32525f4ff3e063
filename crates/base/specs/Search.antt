-- A table searched in order. Definitions only.
use Rattle.std.specs.Prelude.{ℕ, suc, Bool, List, [], ◌∷◌}
use Rattle.base.specs.Pick.{pick}

-- the place of the first element that passes the test, and the table's length where none does
unfoldable pub first : {A : Type 0} → (A → Bool) → List A → ℕ
first p [] = 0
first p (x ∷ xs) = pick (p x) 0 (suc (first p xs))
