-- The choice by a test, where the test is known. Assumes nothing.
use mathlib.Core.Path.{◌≡◌, refl}
use mathlib.Core.Bool.{Bool, true, false}
use Rattle.base.specs.Pick.{pick}

module _ {A : Type 0} (b : Bool) (x y : A) where
  pub pick-t : b ≡ true → pick b x y ≡ x
  unfolding pick
  pick-t h = rw h

  pub pick-f : b ≡ false → pick b x y ≡ y
  unfolding pick
  pick-f h = rw h

  -- what holds of both, each where its side of the test does, holds of the choice
  pub pick-either : (P : A → Type 0) → (b ≡ true → P x) → (b ≡ false → P y) → P (pick b x y)
  unfolding pick
  pick-either P t f = go b t f
    where
      go : (b : Bool) → (b ≡ true → P x) → (b ≡ false → P y) → P (pick b x y)
      go true t f = t refl
      go false t f = f refl
