-- The number of a refusal. Definitions only.
use Rattle.std.specs.Prelude.{ℕ}
use Rattle.base.specs.Told.{Told, gives, refused}

-- 0 of what is no refusal
abbrev pub number_of : Told → ℕ
number_of (gives vs) = 0
number_of (refused k vs) = k
