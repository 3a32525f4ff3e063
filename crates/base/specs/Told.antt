-- An answer in 01's terms: what it gives, or the number that it is refused by and what it gives with it. Definitions only.
use Rattle.std.specs.Prelude.{ℕ, List}

pub data Told : Type 0 where
  gives : List ℕ → Told
  refused : ℕ → List ℕ → Told
