-- A text in parts, and its words. Definitions only.
use Rattle.std.specs.Prelude.{ℕ, ◌<◌, ◌≡◌, Bool, not, cond, ◌||◌, List, [], ◌∷◌, ◌++◌, eqb, length, drop}
use Rattle.text.specs.Run.{run}

-- x before the first part
unfoldable pub grown : ℕ → List (List ℕ) → List (List ℕ)
grown x [] = (x ∷ []) ∷ []
grown x (w ∷ ws) = (x ∷ w) ∷ ws

-- the parts between the elements that meet a test: one more than there are of these, empty parts too
unfoldable pub parts : (ℕ → Bool) → List ℕ → List (List ℕ)
parts p [] = [] ∷ []
parts p (x ∷ xs) = cond (p x) ([] ∷ parts p xs) (grown x (parts p xs))

unfoldable pub not_empty : List (List ℕ) → List (List ℕ)
not_empty [] = []
not_empty ([] ∷ ws) = not_empty ws
not_empty ((x ∷ xs) ∷ ws) = (x ∷ xs) ∷ not_empty ws

-- a space, a tab or a carriage return
unfoldable pub blank : ℕ → Bool
blank x = eqb x 32 || (eqb x 9 || eqb x 13)

abbrev pub filled : ℕ → Bool
filled x = not (blank x)

unfoldable pub words : List ℕ → List (List ℕ)
words s = not_empty (parts blank s)

-- the first word of a text: behind its blanks, as far as no blank stands. The rest follows it
pub record FirstWord (s word rest : List ℕ) : Type 0 where
  pub cut : drop (run blank s) s ≡ word ++ rest
  pub ends : length word ≡ run filled (drop (run blank s) s)
  pub shorter : length rest < length s
  pub reads : words s ≡ word ∷ words rest
