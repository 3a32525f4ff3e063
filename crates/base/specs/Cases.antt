-- Worked cases: what a definition gives beside the value that was worked out elsewhere. Definitions only.
use Rattle.std.specs.Prelude.{◌≡◌, List, [], ◌∷◌, map}

pub record Case (A : Type 0) : Type 0 where
  pub given : A
  pub worked : A

abbrev pub case : {A : Type 0} → A → A → Case A
case given worked = record { given = given; worked = worked }

abbrev pub Hold : {A : Type 0} → List (Case A) → Type 0
Hold {A} cases = map (λ (x : Case A). x.given) cases ≡ map (λ (x : Case A). x.worked) cases

-- the cases with their values seen through f
abbrev pub seen_by : {A B : Type 0} → (A → B) → List (Case A) → List (Case B)
seen_by f [] = []
seen_by f (x ∷ xs) = case (f x.given) (f x.worked) ∷ seen_by f xs
