-- A packet: octets of 0 with named fields stored in them. Definitions only.
use Rattle.std.specs.Prelude.{ℕ, ◌+◌, ◌≤◌, ◌<◌, List, [], ◌∷◌, ◌≡◌, Bool, true, ◌&&◌, ◌||◌, replicate, get_or, leb}
use Rattle.octets.specs.Written.{written}
use Rattle.octets.specs.Number.{be}

-- n octets of 0
unfoldable pub zeros : ℕ → List ℕ
zeros n = replicate n 0

-- the octets of p from a place up to another are 0
abbrev pub Zero : List ℕ → ℕ → ℕ → Type 0
Zero p from to = (i : ℕ) → from ≤ i → i < to → get_or p i 0 ≡ 0

-- a big-endian number of so many octets, and its place
pub record Field : Type 0 where
  pub at : ℕ
  pub width : ℕ
  pub value : ℕ

abbrev pub field : ℕ → ℕ → ℕ → Field
field at width value = record { at = at; width = width; value = value }

-- the fields stored one after another
abbrev pub stored : List Field → List ℕ → List ℕ
stored [] l = l
stored (f ∷ fs) l = stored fs (written l f.at (be f.width f.value))

-- n octets, of which those that no field names are 0
unfoldable pub packet : ℕ → List Field → List ℕ
packet n fs = stored fs (zeros n)

-- ---- what a statement says of the fields: each test of their places computes where the places are numerals

-- every field ends at or before n
abbrev pub within : ℕ → List Field → Bool
within n [] = true
within n (f ∷ fs) = leb (f.at + f.width) n && within n fs

-- no field touches the w octets from i on
abbrev pub outside : ℕ → ℕ → List Field → Bool
outside i w [] = true
outside i w (f ∷ fs) = (leb (i + w) f.at || leb (f.at + f.width) i) && outside i w fs

-- no two fields overlap
abbrev pub apart : List Field → Bool
apart [] = true
apart (f ∷ fs) = outside f.at f.width fs && apart fs
