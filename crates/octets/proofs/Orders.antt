-- Lists of octets: the same is equal, and where no octet is above its counterpart the list is at most the other. Assumes nothing.
use Prim.Native.Nat.{ℕ, zero, suc, ◌≤◌, ◌<◌}
use mathlib.Core.Path.{◌≡◌, refl}
use mathlib.Core.Bool.{Bool, true, false, ◌&&◌, ◌||◌}
use mathlib.Core.Logic.{⊎_elim}
use mathlib.Core.List.{List, [], ◌∷◌}
use lib.ListN.{length, get_or}
use lib.Dec.{T, eqb, ltb, eqb→eq}
use lib.Ieee.Fits.{and_l, and_r}
use native.Mathlib.Nat.{eq-or-lt_of_le}
use native.Mathlib.Omega.{arith}
use borrow.Author.Tests.{eq-eqb, lt-ltb}
use Rattle.octets.specs.Order.{same, at_most}

pub same_refl : (a : List ℕ) → T (same a a)
unfolding same
same_refl [] = tt
same_refl (x ∷ a) = rw (eq-eqb x x refl) (same_refl a)

pub same-is : (a b : List ℕ) → T (same a b) → a ≡ b
unfolding same
same-is [] [] t = refl
same-is [] (y ∷ b) t = absurd t
same-is (x ∷ a) [] t = absurd t
same-is (x ∷ a) (y ∷ b) t = rw (eqb→eq x y (and_l (eqb x y) (same a b) t), same-is a b (and_r (eqb x y) (same a b) t)) refl

pub pointwise : (a b : List ℕ) → length a ≡ length b → ((i : ℕ) → i < length a → get_or a i 0 ≤ get_or b i 0) → T (at_most a b)
unfolding at_most
pointwise [] b e h = tt
pointwise (x ∷ a) [] e h = absurd (omega arith)
pointwise (x ∷ a) (y ∷ b) e h =
    ⊎_elim
    (λ q. equal (ltb x y) (eqb x y) (at_most a b) (eq-eqb x y q) (pointwise a b (omega arith) (λ i l. h (suc i) (omega arith))))
    (λ l. less (ltb x y) (eqb x y && at_most a b) (lt-ltb x y l))
    (eq-or-lt_of_le (h zero (omega arith)))
  where
    less : (p q : Bool) → p ≡ true → T (p || q)
    less p q e = rw e tt

    equal : (p q r : Bool) → q ≡ true → T r → T (p || (q && r))
    equal true q r e t = tt
    equal false q r e t = rw e t
