-- A table searched in order: what a loop over it keeps, how far the place goes, and what stands there. Assumes nothing.
use mathlib.Core.Path.{◌≡◌, refl, sym, ap, ◌∙◌}
use Prim.Native.Nat.{ℕ, suc, ◌+◌, ◌≤◌, ◌<◌, zero-le}
use native.Mathlib.Nat.{add-zero, zero-add, le_of_eq, le_trans, lt_of_le_of_lt, le_of_suc-le-suc, lt_irrefl}
use native.Mathlib.Omega.{arith}
use native.Mathlib.Numerals.{add-one}
use mathlib.Core.Bool.{Bool, true, false, ◌&&◌}
use mathlib.Core.List.{List, [], ◌∷◌}
use lib.ListN.{length, get_or, drop, drop_of_length-le}
use lib.Seq.{drop-cons}
use Rattle.base.specs.Pick.{pick}
use Rattle.base.proofs.Picks.{pick-t, pick-f}
use Rattle.base.specs.Search.{first}

module _ {A : Type 0} (p : A → Bool) (ls : List A) where
  -- nothing before place i passes: a loop's invariant
  abbrev pub Past : ℕ → Type 0
  Past i = first p ls ≡ i + first p (drop i ls)

  pub at-start : Past 0
  at-start = sym (zero-add (first p ls))

  pub at-end : (i : ℕ) → length ls ≤ i → Past i → i ≡ first p ls
  unfolding first
  at-end i h e = sym (e ∙ ap (λ (l : List A). i + first p l) (drop_of_length-le ls h) ∙ add-zero i)

  -- at a place of the table, d for what stands past its end
  module _ (d : A) (i : ℕ) (h : i < length ls) where
    here : first p (drop i ls) ≡ pick (p (get_or ls i d)) 0 (suc (first p (drop (suc i) ls)))
    unfolding first
    here = ap (first p) (drop-cons ls i d h)

    pub found : p (get_or ls i d) ≡ true → Past i → i ≡ first p ls
    found t e = sym (e ∙ ap (λ (z : ℕ). i + z) (here ∙ pick-t _ _ _ t) ∙ add-zero i)

    pub onward : p (get_or ls i d) ≡ false → Past i → Past (i + 1)
    onward t e =
        e ∙ ap (λ (z : ℕ). i + z) (here ∙ pick-f _ _ _ t)
        ∙ over i (first p (drop (suc i) ls))
        ∙ ap (λ (z : ℕ). i + 1 + first p (drop z ls)) (sym (add-one i))
      where
        over : (i z : ℕ) → i + suc z ≡ i + 1 + z
        over i z = omega arith

module _ {A : Type 0} (p : A → Bool) where
  pub first-le : (ls : List A) → first p ls ≤ length ls
  unfolding first pick
  first-le [] = le_of_eq refl
  first-le (x ∷ xs) = go (p x) (first-le xs)
    where
      go : (b : Bool) → first p xs ≤ length xs → pick b 0 (suc (first p xs)) ≤ suc (length xs)
      go true h = zero-le
      go false h = omega arith

  -- the place, as a call gives it, in a longer table
  pub in_table : (ls : List A) (r n : ℕ) → r ≡ first p ls → length ls < n → r < n
  in_table ls r n e h = lt_of_le_of_lt (le_trans (le_of_eq e) (first-le ls)) h

  -- where the place is one of the table, what stands there passes
  pub first_holds : (ls : List A) (d : A) → first p ls < length ls → p (get_or ls (first p ls) d) ≡ true
  unfolding first pick
  first_holds [] d = λ h. absurd (lt_irrefl 0 h)
  first_holds (x ∷ xs) d = go (p x) refl (first_holds xs d)
    where
      go : (b : Bool) → p x ≡ b → (first p xs < length xs → p (get_or xs (first p xs) d) ≡ true)
          → pick b 0 (suc (first p xs)) < suc (length xs) → p (get_or (x ∷ xs) (pick b 0 (suc (first p xs))) d) ≡ true
      go true e f h = e
      go false e f h = f (le_of_suc-le-suc h)

  -- where nothing passes, the place is past the end
  pub none_first : ((x : A) → p x ≡ false) → (ls : List A) → first p ls ≡ length ls
  unfolding first
  none_first n [] = refl
  none_first n (x ∷ xs) = pick-f _ _ _ (n x) ∙ ap suc (none_first n xs)

-- ---- a test that every entry of a table passes
abbrev pub every : {A : Type 0} → (A → Bool) → List A → Bool
every p [] = true
every p (x ∷ xs) = p x && every p xs
