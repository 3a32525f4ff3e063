-- The list of waiting numbers. Definitions only.
use Rattle.std.specs.Prelude.{ℕ, ◌+◌, ◌-◌, List, [], ◌∷◌, ◌++◌, ltb, leb, length, take, drop, Option, Some, None}
use Rattle.base.specs.Pick.{pick}
use Rattle.octets.specs.Table.{tab}
use Rattle.text.specs.Run.{run, is, other}
use Rattle.text.specs.Split.{parts}
use Rattle.values.specs.Value.{given, number}

-- so many numbers from one on
abbrev pub from : ℕ → ℕ → List ℕ
from a k = tab k (λ j. a + j)

-- the first of numbers that follow each other, and how many
abbrev pub span : ℕ → ℕ → Option (ℕ × ℕ)
span a k = Some (a, k)

-- one number, or two with a dash between them at a place
unfoldable pub span_at : ℕ → List ℕ → Option (ℕ × ℕ)
span_at dash p =
    pick (ltb dash (length p))
    (given (number 4294967295 (take dash p))
    (λ a. given (number 4294967295 (drop (dash + 1) p)) (λ b. pick (leb a b) (span a (b - a + 1)) None) None)
    None)
    (given (number 4294967295 p) (λ a. span a 1) None)

unfoldable pub span_of : List ℕ → Option (ℕ × ℕ)
span_of p = span_at (run (other 45) p) p

unfoldable pub given_span : {A : Type 0} → Option (ℕ × ℕ) → (ℕ → ℕ → A) → A → A
given_span (Some s) f z = f s.0 s.1
given_span None f z = z

-- how many numbers there are after n, at most 8193 in all
unfoldable pub count_after : ℕ → List (List ℕ) → Option ℕ
count_after n [] = Some n
count_after n (p ∷ ps) = given_span (span_of p) (λ a k. pick (leb (n + k) 8193) (count_after (n + k) ps) None) None

unfoldable pub numbers_of : List (List ℕ) → List ℕ
numbers_of [] = []
numbers_of (p ∷ ps) = given_span (span_of p) (λ a k. from a k ++ numbers_of ps) []

-- those of the parts before the first that is no span, or with which there are more than 8193 in all
unfoldable pub seen_after : ℕ → List (List ℕ) → List ℕ
seen_after n [] = []
seen_after n (p ∷ ps) = given_span (span_of p) (λ a k. pick (leb (n + k) 8193) (from a k ++ seen_after (n + k) ps) []) []

-- with commas between
unfoldable pub waiting_count : List ℕ → Option ℕ
waiting_count w = count_after 0 (parts (is 44) w)

unfoldable pub waiting_numbers : List ℕ → List ℕ
waiting_numbers w = numbers_of (parts (is 44) w)

-- what is written while a word is read
unfoldable pub waiting_seen : List ℕ → List ℕ
waiting_seen w = seen_after 0 (parts (is 44) w)
