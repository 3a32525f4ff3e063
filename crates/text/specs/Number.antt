-- A number as text spells it. Definitions only.
use Rattle.std.specs.Prelude.{ℕ, ◌+◌, ◌-◌, ◌*◌, Bool, cond, ◌&&◌, List, [], ◌∷◌, ltb, leb, eqb, get_or, drop, Option, Some, None}

-- 0 to 9, a to f and A to F in ASCII; 16 of anything else
unfoldable pub digit_of : ℕ → ℕ
digit_of x =
    cond (ltb x 48) 16
    (cond (ltb x 58) (x - 48)
    (cond (ltb x 65) 16
    (cond (ltb x 71) (x - 55)
    (cond (ltb x 97) 16
    (cond (ltb x 103) (x - 87) 16)))))

-- n followed by the digits of a list, in base b; none where one is not below b or where the number passes a u64. In a base up to 16 what is no digit is none
unfoldable pub digits_after : ℕ → ℕ → List ℕ → Option ℕ
digits_after b n [] = Some n
digits_after b n (x ∷ xs) =
    cond (ltb (digit_of x) b && leb (n * b + digit_of x) 18446744073709551615)
    (digits_after b (n * b + digit_of x) xs)
    None

-- one digit or more
unfoldable pub digits_of : ℕ → List ℕ → Option ℕ
digits_of b [] = None
digits_of b (x ∷ xs) = digits_after b 0 (x ∷ xs)

-- whether it starts with 0x
unfoldable pub is_hex : List ℕ → Bool
is_hex s = eqb (get_or s 0 0) 48 && eqb (get_or s 1 0) 120

unfoldable pub number_of : List ℕ → Option ℕ
number_of s = cond (is_hex s) (digits_of 16 (drop 2 s)) (digits_of 10 s)
