-- What each way through a reader of a word gives. Assumes nothing.
use mathlib.Core.Path.{◌≡◌, refl, ap}
use mathlib.Core.Bool.{Bool, true, false, not}
use mathlib.Core.List.{List}
use Prim.Native.Nat.{ℕ, ◌≤◌}
use native.Mathlib.Omega.{arith}
use borrow.Author.Tests.{leb-true}
use lib.Dec.{T, leb}
use lib.IntN.{pos}
use lib.Ieee.{Float, nan, inf, fin, binary64, of_int, is_nan}
use lib.Ieee.Back.{round_whole}
use lib.Ieee.Exact.{HasValue}
use Rattle.std.specs.Prelude.{Option, Some, None}
use Rattle.std.specs.Option.{option_and_then}
use Rattle.base.specs.Pick.{pick}
use Rattle.text.specs.Number.{digits_of}
use Rattle.values.specs.Value.{given, up_to, number}

module _ {A : Type 0} (x : Option ℕ) (f : ℕ → A) (z : A) where
  pub given-no : x ≡ None → given x f z ≡ z
  unfolding given
  given-no e = rw e

  pub given_yes : (n : ℕ) → x ≡ Some n → given x f z ≡ f n
  unfolding given
  given_yes n e = rw e

module _ (x : Option ℕ) (f : ℕ → Option ℕ) where
  pub then-no : x ≡ None → option_and_then f x ≡ None
  then-no e = ap (option_and_then f) e

  pub then-yes : (n : ℕ) → x ≡ Some n → option_and_then f x ≡ f n
  then-yes n e = ap (option_and_then f) e

-- a number that was read is within its limit
pub number-most : (m : ℕ) (w : List ℕ) (n : ℕ) → number m w ≡ Some n → n ≤ m
unfolding number pick
number-most m w n e = go (digits_of 10 w) e
  where
    held : (v : ℕ) (b : Bool) → leb v m ≡ b → pick b (Some v) None ≡ Some n → n ≤ m
    held v true t e = omega (arith, leb-true v m t, (let z : v ≡ n = cc in z))
    held v false t e = let z : ◌≡◌ {A = ℕ} 0 1 = cc in absurd (omega arith)

    go : (x : Option ℕ) → option_and_then (λ v. pick (leb v m) (Some v) None) x ≡ Some n → n ≤ m
    go (Some v) e = held v (leb v m) refl e
    go None e = let z : ◌≡◌ {A = ℕ} 0 1 = cc in absurd (omega arith)

-- what is held to a limit was spelt
pub up-to-number : (m : ℕ) (x : Option ℕ) (n : ℕ) → up_to m x ≡ Some n → x ≡ Some n
unfolding pick
up-to-number m (Some v) n e = held (leb v m) e
  where
    held : (b : Bool) → pick b (Some v) None ≡ Some n → Some v ≡ Some n
    held true e = e
    held false e = let z : ◌≡◌ {A = ℕ} 0 1 = cc in absurd (omega arith)
up-to-number m None n e = let z : ◌≡◌ {A = ℕ} 0 1 = cc in absurd (omega arith)

-- a whole number's double is none but a number
valued : (x : Float) (n : ℕ) → HasValue x false n 1 → T (not (is_nan x))
unfolding is_nan
valued nan n v = v
valued (inf s) n v = tt
valued (fin s m e) n v = tt

pub whole-no-nan : (n : ℕ) → n ≤ 9007199254740992 → T (not (is_nan (of_int binary64 (pos n))))
unfolding of_int
whole-no-nan n h = valued _ n (round_whole binary64 false n h)
