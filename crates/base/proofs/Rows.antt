-- What a table of refusals gives: by the first row that applies, and by none of them; and what a number tells of its row. Assumes
-- nothing.
use Rattle.std.specs.Prelude.{Option, Some, None}
use Prim.Native.Nat.{ℕ, zero, suc}
use mathlib.Core.Path.{◌≡◌, refl, ◌∙◌}
use mathlib.Core.Bool.{Bool, true, false, not, ◌&&◌}
use mathlib.Core.List.{List, [], ◌∷◌}
use native.Mathlib.Omega.{arith}
use lib.Dec.{T, T_not, eqb}
use lib.ListN.{get_or, take, drop}
use lib.Ieee.Fits.{and_l, and_r}
use borrow.Author.Tests.{eq-eqb}
use Rattle.base.specs.Pick.{pick}
use Rattle.base.specs.Rows.{Row, row, first_row, unless}
use Rattle.base.proofs.Picks.{pick-f, pick-either}

-- none of the rows applies
abbrev pub NoRow : List Row → Type 0
NoRow [] = Unit {0}
NoRow (r ∷ rs) = (r.applies ≡ false) × NoRow rs

module _ {A : Type 0} where
  -- rows at the front that do not apply make no difference
  pub unless-past : (n : ℕ) (rs : List Row) (refuse : ℕ → A) (answer : A) → NoRow (take n rs) → unless rs refuse answer ≡ unless (drop n rs) refuse answer
  unless-past zero rs refuse answer h = refl
  unless-past (suc n) [] refuse answer h = refl
  unless-past (suc n) (x ∷ xs) refuse answer h = pick-f x.applies (refuse x.number) (unless xs refuse answer) h.0 ∙ unless-past n xs refuse answer h.1

  -- what holds of every refusal, and of the answer where no row applies, holds of what is given
  pub unless-either : (P : A → Type 0) (rs : List Row) (refuse : ℕ → A) (answer : A) → ((k : ℕ) → P (refuse k)) → (NoRow rs → P answer) → P (unless rs refuse answer)
  unless-either P [] refuse answer r a = a tt
  unless-either P (x ∷ xs) refuse answer r a =
      pick-either x.applies (refuse x.number) (unless xs refuse answer) P (λ e. r x.number) (λ e. unless-either P xs refuse answer r (λ n. a (e, n)))

  -- a function of what is given
  pub unless-map : {B : Type 0} (g : A → B) (rs : List Row) (refuse : ℕ → A) (answer : A) → g (unless rs refuse answer) ≡ unless rs (λ k. g (refuse k)) (g answer)
  unfolding pick
  unless-map g [] refuse answer = refl
  unless-map g (x ∷ xs) refuse answer = go x.applies (unless-map g xs refuse answer)
    where
      go : (b : Bool) → g (unless xs refuse answer) ≡ unless xs (λ k. g (refuse k)) (g answer) → g (pick b (refuse x.number) (unless xs refuse answer)) ≡ pick b (g (refuse x.number)) (unless xs (λ k. g (refuse k)) (g answer))
      go true h = refl
      go false h = h

  -- where what is given says by which number it was refused, it says the first row's
  pub unless-refused : (by : A → Option ℕ) (rs : List Row) (refuse : ℕ → A) (answer : A) → ((k : ℕ) → by (refuse k) ≡ Some k) → by answer ≡ None → by (unless rs refuse answer) ≡ first_row rs
  unfolding pick
  unless-refused by [] refuse answer r a = a
  unless-refused by (x ∷ xs) refuse answer r a = go x.applies (unless-refused by xs refuse answer r a)
    where
      go : (b : Bool) → by (unless xs refuse answer) ≡ first_row xs → by (pick b (refuse x.number) (unless xs refuse answer)) ≡ pick b (Some x.number) (first_row xs)
      go true h = r x.number
      go false h = h

-- ---- a number that one row alone has is told only where that row is the first to apply

-- the n-th row, counted from 0
abbrev pub row_at : ℕ → List Row → Row
row_at n rs = get_or rs n (row 0 false)

-- no row has the number k
abbrev without : ℕ → List Row → Bool
without k [] = true
without k (r ∷ rs) = not (eqb r.number k) && without k rs

-- no row but the n-th has its number
abbrev pub alone : ℕ → List Row → Bool
alone n [] = true
alone zero (r ∷ rs) = without r.number rs
alone (suc n) (r ∷ rs) = not (eqb r.number (row_at n rs).number) && alone n rs

other : (a b : ℕ) → T (not (eqb a b)) → Some a ≡ Some b → ⊥
other a b t e = T_not (eqb a b) t (rw (eq-eqb a b cc) tt)

not-told : (k : ℕ) (rs : List Row) → T (without k rs) → first_row rs ≡ Some k → ⊥
unfolding pick
not-told k [] t e = let z : ◌≡◌ {A = ℕ} 0 1 = cc in absurd (omega arith)
not-told k (x ∷ xs) t e = go x.applies e (not-told k xs (and_r (not (eqb x.number k)) (without k xs) t))
  where
    go : (b : Bool) → pick b (Some x.number) (first_row xs) ≡ Some k → (first_row xs ≡ Some k → ⊥) → ⊥
    go true e rest = other x.number k (and_l (not (eqb x.number k)) (without k xs) t) e
    go false e rest = rest e

pub only_row : (n : ℕ) (rs : List Row) → T (alone n rs) → first_row rs ≡ Some (row_at n rs).number → NoRow (take n rs) × ((row_at n rs).applies ≡ true)
unfolding pick
only_row n [] t e = let z : ◌≡◌ {A = ℕ} 0 1 = cc in absurd (omega arith)
only_row zero (x ∷ xs) t e = (tt, go x.applies e)
  where
    go : (b : Bool) → pick b (Some x.number) (first_row xs) ≡ Some x.number → b ≡ true
    go true e = refl
    go false e = absurd (not-told x.number xs t e)
only_row (suc n) (x ∷ xs) t e = go x.applies e (only_row n xs (and_r (not (eqb x.number (row_at n xs).number)) (alone n xs) t))
  where
    go : (b : Bool) → pick b (Some x.number) (first_row xs) ≡ Some (row_at n xs).number
        → (first_row xs ≡ Some (row_at n xs).number → NoRow (take n xs) × ((row_at n xs).applies ≡ true))
        → ((b ≡ false) × NoRow (take n xs)) × ((row_at n xs).applies ≡ true)
    go true e rest = absurd (other x.number (row_at n xs).number (and_l (not (eqb x.number (row_at n xs).number)) (alone n xs) t) e)
    go false e rest = let r = rest e in ((refl, r.0), r.1)
