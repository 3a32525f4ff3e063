-- A sample: I and Q, both f32, as they stand in the datagram. Definitions only.
use Rattle.std.specs.Prelude.{List, [], ◌∷◌, Float}

pub record Sample : Type 0 where
  pub i : Float
  pub q : Float

-- the pairs that stand in a buffer; an odd last place is in none
unfoldable pub pairs : List Float → List Sample
pairs [] = []
pairs (i ∷ []) = []
pairs (i ∷ q ∷ l) = record { i = i; q = q } ∷ pairs l
