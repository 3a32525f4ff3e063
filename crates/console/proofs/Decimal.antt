-- A number's decimal text: the reader of lists reads the number back from it, and there is one text alone. Assumes nothing.
use Prim.Native.Nat.{ℕ, zero, suc, ◌+◌, ◌-◌, ◌*◌, ◌/◌, ◌%◌, ◌^◌, ◌≤◌, ◌<◌}
use mathlib.Core.Path.{◌≡◌, refl, ◌∙◌}
use mathlib.Core.Bool.{Bool, true, false, and-false}
use mathlib.Core.List.{List, [], ◌∷◌, ◌++◌, append_assoc, append-nil}
use native.Mathlib.Nat.{pow-suc, pow-le-pow_right}
use native.Mathlib.Omega.{arith}
use borrow.Author.Tests.{lt-ltb, le-ltb, le-leb, leb-true, leb-false, ne_eqb}
use lib.Dec.{leb, eqb}
use lib.ListN.{get_or}
use Rattle.io.specs.Digits.{hex_digit_ascii, last_digits, IsDigitCount}
use Rattle.std.specs.Prelude.{Some}
use Rattle.text.specs.Number.{digit_of, digits_after, digits_of, is_hex, number_of}

abbrev most : ℕ
most = 18446744073709551615

-- a digit's glyph is read as the digit
read-glyph : (d : ℕ) → d < 10 → digit_of (hex_digit_ascii d) ≡ d
unfolding digit_of
read-glyph d h = rw (lt-ltb d 10 h, le-ltb (48 + d) 48 (omega arith), lt-ltb (48 + d) 58 (omega arith)) (omega arith)

-- a number below 10^k is read from its last k digits, and what follows them after it
digits-read : (k n : ℕ) (t : List ℕ) → n < 10 ^ k → n ≤ most → digits_after 10 0 (last_digits 10 k n ++ t) ≡ digits_after 10 n t
unfolding digits_after
digits-read zero n t h u = let e : n ≡ 0 = omega arith in rw e
digits-read (suc k) n t h u =
    let p : n < 10 ^ k * 10 = rw pow-suc at h in
    let e : n / 10 * 10 + n % 10 ≡ n = omega arith in
    rw append_assoc
    (digits-read k (n / 10) (hex_digit_ascii (n % 10) ∷ t) (omega arith) (omega arith)
    ∙ rw (read-glyph (n % 10) (omega arith), lt-ltb (n % 10) 10 (omega arith), e, le-leb n most u))

snoc-small : (xs : List ℕ) (y : ℕ) → ((i : ℕ) → get_or xs i 0 ≤ 57) → y ≤ 57 → (i : ℕ) → get_or (xs ++ (y ∷ [])) i 0 ≤ 57
snoc-small [] y h l zero = l
snoc-small [] y h l (suc i) = omega arith
snoc-small (x ∷ xs) y h l zero = h 0
snoc-small (x ∷ xs) y h l (suc i) = snoc-small xs y (λ j. h (suc j)) l i

-- none of them is an x
digits-small : (k n i : ℕ) → get_or (last_digits 10 k n) i 0 ≤ 57
digits-small zero n i = omega arith
digits-small (suc k) n i =
    let l : hex_digit_ascii (n % 10) ≤ 57 = rw (lt-ltb (n % 10) 10 (omega arith)) (omega arith) in
    snoc-small (last_digits 10 k (n / 10)) (hex_digit_ascii (n % 10)) (digits-small k (n / 10)) l i

digits-not-hex : (k n : ℕ) → is_hex (last_digits 10 k n) ≡ false
unfolding is_hex
digits-not-hex k n =
    rw (ne_eqb (get_or (last_digits 10 k n) 1 0) 120 (λ e. omega (arith, digits-small k n 1))) (and-false (eqb (get_or (last_digits 10 k n) 0 0) 48))

one-or-more : (xs : List ℕ) (y : ℕ) → digits_of 10 (xs ++ (y ∷ [])) ≡ digits_after 10 0 (xs ++ (y ∷ []))
unfolding digits_of
one-or-more [] y = refl
one-or-more (x ∷ xs) y = refl

-- what is put for a number is read as the number: no digit is lost
pub read_back : (n k : ℕ) → IsDigitCount 10 1 n k → n < 2 ^ 64 → number_of (last_digits 10 k n) ≡ Some n
unfolding number_of digits_after
read_back n zero f h = absurd (omega arith)
read_back n (suc k) f h =
    let u : n ≤ most = omega arith in
    rw (digits-not-hex (suc k) n)
    (one-or-more (last_digits 10 k (n / 10)) (hex_digit_ascii (n % 10))
    ∙ rw (← append-nil (last_digits 10 (suc k) n)) (digits-read (suc k) n [] f.1 u))

-- a number below 10^j has at most j digits
pub at-most : (n j k : ℕ) → 1 ≤ j → n < 10 ^ j → IsDigitCount 10 1 n k → k ≤ j
at-most n j k o h f = go (leb k j) refl
  where
    go : (b : Bool) → leb k j ≡ b → k ≤ j
    go true e = leb-true k j e
    go false e =
        let l : j < k = leb-false k j e in
        let p : 10 ^ j ≤ 10 ^ (k - 1) = pow-le-pow_right (omega arith) {i = j} {j = k - 1} (omega arith) in
        absurd (omega (arith, f.2 (omega arith)))

-- and one count of digits alone, so one text
pub one-count : (n j k : ℕ) → IsDigitCount 10 1 n j → IsDigitCount 10 1 n k → j ≡ k
one-count n j k f g = omega (arith, at-most n j k f.0 f.1 g, at-most n k j g.0 g.1 f)
