-- A loop that reads digits: what each octet makes of the number so far. Assumes nothing.
use mathlib.Core.Path.{◌≡◌, refl}
use mathlib.Core.Bool.{true, false}
use mathlib.Core.List.{List, [], ◌∷◌}
use Prim.Native.Nat.{ℕ, ◌+◌, ◌-◌, ◌*◌, ◌≤◌, ◌<◌}
use native.Mathlib.Numerals.{add-one}
use native.Mathlib.Omega.{arith}
use borrow.Author.Tests.{lt-ltb, le-ltb, le-leb, lt-leb}
use lib.ListN.{length, get_or, take, drop, drop_of_length-le, length-drop}
use lib.Seq.{drop-cons, take_all}
use Rattle.std.specs.Prelude.{Some, None}
use Rattle.text.specs.Number.{digit_of, digits_after, digits_of, is_hex, number_of}

abbrev most : ℕ
most = 18446744073709551615

-- the first i elements of s are read, and make n
abbrev pub Read : ℕ → List ℕ → ℕ → ℕ → Type 0
Read b s n i = (i ≤ length s) × (digits_after b n (drop i s) ≡ digits_of b s)

pub none_read : (b : ℕ) (s : List ℕ) → (length s ≡ 0 → ⊥) → Read b s 0 0
unfolding digits_of
none_read b [] h = absurd (h refl)
none_read b (x ∷ xs) h = (omega arith, refl)

pub no-digits : (b : ℕ) (s : List ℕ) → length s ≡ 0 → None ≡ digits_of b s
unfolding digits_of
no-digits b [] h = refl
no-digits b (x ∷ xs) h = absurd (omega arith)

module _ (b : ℕ) (s : List ℕ) (n i : ℕ) (k : Read b s n i) where
  pub all_read : length s ≤ i → Some n ≡ digits_of b s
  unfolding digits_after
  all_read h = rw (drop_of_length-le s h) at k.1

  module _ (d : ℕ) (h : i < length s) (e : d ≡ digit_of (get_or s i 0)) where
    pub one-read : d < b → n * b + d ≤ most → Read b s (n * b + d) (i + 1)
    unfolding digits_after
    one-read u f = (omega arith, rw (add-one) (rw (drop-cons s i 0 h, ← e, lt-ltb _ _ u, le-leb _ _ f) at k.1))

    pub not-a-digit : b ≤ d → None ≡ digits_of b s
    unfolding digits_after
    not-a-digit u = rw (drop-cons s i 0 h, ← e, le-ltb _ _ u) at k.1

    pub too_large : d < b → most < n * b + d → None ≡ digits_of b s
    unfolding digits_after
    too_large u f = rw (drop-cons s i 0 h, ← e, lt-ltb _ _ u, lt-leb _ _ f) at k.1

pub hex-number : (s : List ℕ) → is_hex s ≡ true → digits_of 16 (take (length s - 2) (drop 2 s)) ≡ number_of s
unfolding number_of
hex-number s h = rw (h, take_all (length s - 2) (drop 2 s) (simp length-drop (omega arith)))

pub plain-number : (s : List ℕ) → is_hex s ≡ false → digits_of 10 s ≡ number_of s
unfolding number_of
plain-number s h = rw h
