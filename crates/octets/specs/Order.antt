-- Lists of octets: what they are, whether two are the same, and which of two comes first. Definitions only.
use Rattle.std.specs.Prelude.{ℕ, ◌<◌, Bool, true, false, ◌&&◌, ◌||◌, List, [], ◌∷◌, get_or, eqb, ltb}

-- every one is below 256, as the code's type has it
abbrev pub Octets : List ℕ → Type 0
Octets l = (k : ℕ) → get_or l k 0 < 256

-- the same octets, and as many
unfoldable pub same : List ℕ → List ℕ → Bool
same [] [] = true
same [] (y ∷ b) = false
same (x ∷ a) [] = false
same (x ∷ a) (y ∷ b) = eqb x y && same a b

-- a is at most b, octet by octet from the first: the first that differs decides
unfoldable pub at_most : List ℕ → List ℕ → Bool
at_most [] b = true
at_most (x ∷ a) [] = false
at_most (x ∷ a) (y ∷ b) = ltb x y || (eqb x y && at_most a b)
