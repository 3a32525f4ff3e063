-- How two numbers compare, and what is chosen by it: to the nearest, ties to even, and half away from zero. Assumes nothing.
use Rattle.std.proofs.Common.{◌≡◌, ℕ, suc, ◌+◌, ◌%◌, ◌<◌, ◌≤◌, Bool, true, false, T, eqb, sym, refl, ap, true≢false, le_of_eq, le_of_lt, arith, eq-eqb, ne_eqb, eqb-true, le-leb}
use Prim.Native.Nat.{compare, Ordering}
use borrow.Author.Tests.{lt-leb, eqb-false}
use lib.Dec.{is_le, compare_is_eq}
use lib.Ieee.{nearest}
use Rattle.double.specs.Whole.{away}

pub bool-ext : (a b : Bool) → (T a → T b) → (T b → T a) → a ≡ b
bool-ext true true f g = refl
bool-ext true false f g = absurd (f tt)
bool-ext false true f g = absurd (g tt)
bool-ext false false f g = refl

pub order-ext : (o p : Ordering) → is_le o ≡ is_le p → compare_is_eq o ≡ compare_is_eq p → o ≡ p
order-ext Ordering.lt Ordering.lt a b = refl
order-ext Ordering.lt Ordering.eq a b = absurd (true≢false (sym b))
order-ext Ordering.lt Ordering.gt a b = absurd (true≢false a)
order-ext Ordering.eq Ordering.lt a b = absurd (true≢false b)
order-ext Ordering.eq Ordering.eq a b = refl
order-ext Ordering.eq Ordering.gt a b = absurd (true≢false a)
order-ext Ordering.gt Ordering.lt a b = absurd (true≢false (sym a))
order-ext Ordering.gt Ordering.eq a b = absurd (true≢false (sym a))
order-ext Ordering.gt Ordering.gt a b = refl

module _ (a b : ℕ) where
  pub order_lt : a < b → compare a b ≡ Ordering.lt
  order_lt h = order-ext (compare a b) Ordering.lt (le-leb a b (le_of_lt h)) (ne_eqb a b (λ e. absurd (omega arith)))

  pub order-eq : a ≡ b → compare a b ≡ Ordering.eq
  order-eq h = order-ext (compare a b) Ordering.eq (le-leb a b (le_of_eq h)) (eq-eqb a b h)

  pub order-gt : b < a → compare a b ≡ Ordering.gt
  order-gt h = order-ext (compare a b) Ordering.gt (lt-leb a b h) (ne_eqb a b (λ e. absurd (omega arith)))

  pub near-lt : (q : ℕ) → a < b → nearest q (compare a b) ≡ q
  near-lt q h = ap (nearest q) (order_lt h)

  pub near-eq : (q : ℕ) → a ≡ b → nearest q (compare a b) ≡ q + q % 2
  near-eq q h = ap (nearest q) (order-eq h)

  pub near-gt : (q : ℕ) → b < a → nearest q (compare a b) ≡ suc q
  near-gt q h = ap (nearest q) (order-gt h)

  pub away-lt : (q : ℕ) → a < b → away q (compare a b) ≡ q
  away-lt q h = ap (away q) (order_lt h)

  pub away-ge : (q : ℕ) → b ≤ a → away q (compare a b) ≡ q + 1
  away-ge q h = go (eqb a b) refl
    where
      past : (a ≡ b → ⊥) → b < a
      past n = omega arith

      go : (t : Bool) → eqb a b ≡ t → away q (compare a b) ≡ q + 1
      go true e = ap (away q) (order-eq (eqb-true a b e))
      go false e = ap (away q) (order-gt (past (eqb-false a b e)))
