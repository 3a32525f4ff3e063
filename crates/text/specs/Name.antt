-- A name's place in a list of names. Definitions only.
use Rattle.std.specs.Prelude.{ℕ, zero, suc, ◌+◌, Bool, true, false, cond, ◌&&◌, List, [], ◌∷◌, eqb, ltb, length, Option, Some, None}
use Prim.Native.Char.{code}
use Prim.Native.String.{String, len, char_at}

unfoldable pub same : List ℕ → List ℕ → Bool
same [] [] = true
same [] (y ∷ ys) = false
same (x ∷ xs) [] = false
same (x ∷ xs) (y ∷ ys) = eqb x y && same xs ys

-- the first place at which w stands, or how many names there are
unfoldable pub place : List ℕ → List (List ℕ) → ℕ
place w [] = 0
place w (x ∷ xs) = cond (same x w) 0 (suc (place w xs))

-- the first place at which w stands, where it stands among them
unfoldable pub found : List ℕ → List (List ℕ) → Option ℕ
found w ws = cond (ltb (place w ws) (length ws)) (Some (place w ws)) None

-- n characters from i on
abbrev pub codes_from : String → ℕ → ℕ → List ℕ
codes_from s i zero = []
codes_from s i (suc n) = code (char_at s i) ∷ codes_from s (i + 1) n

-- a text of ASCII as octets
abbrev pub ascii : String → List ℕ
ascii s = codes_from s 0 (len s)

abbrev pub named : List String → List (List ℕ)
named [] = []
named (s ∷ ss) = ascii s ∷ named ss
