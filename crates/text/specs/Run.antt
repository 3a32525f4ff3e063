-- The run of elements at the front of a list that meet a test. Definitions only.
use Rattle.std.specs.Prelude.{ℕ, suc, Bool, not, cond, List, [], ◌∷◌, eqb}

-- how many elements stand before the first that fails the test
unfoldable pub run : (ℕ → Bool) → List ℕ → ℕ
run p [] = 0
run p (x ∷ xs) = cond (p x) (suc (run p xs)) 0

abbrev pub is : ℕ → ℕ → Bool
is b x = eqb x b

abbrev pub other : ℕ → ℕ → Bool
other b x = not (eqb x b)
